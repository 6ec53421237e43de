-- Timer0's own part of a system clock: what its prescaler and counter become, and what it requests.
use Rattle.std.specs.Prelude.{ℕ, ◌+◌, ◌/◌, ◌%◌, ltb, eqb}
use Rattle.lent.specs.Lent.{pick}
use Rattle.sh_state.specs.declared.machine.Machine.{Machine}
use Rattle.sh_state.specs.Record.{set_prescaler, set_counter}
use Rattle.sh_periods.specs.Periods.{ratio_of}
use Rattle.sh_timers.specs.declared.timer0.Tick.{Tick}

abbrev pub ticks : ℕ → ℕ → ℕ → Tick
ticks prescaler counter requests = record { prescaler = prescaler; counter = counter; requests = requests }

-- by the ratio: the prescaler up to it, then the counter up to 255, then the load or 0 and the request (003, 7; `clock_ticks`: as `clocked_of` has it)
unfoldable pub ticked_by : ℕ → ℕ → ℕ → ℕ → ℕ → Tick
ticked_by prescaler counter load mode ratio =
    pick (eqb (mode % 8) 7) (ticks prescaler counter 0)
    (pick (ltb (prescaler + 1) ratio) (ticks (prescaler + 1) counter 0)
    (pick (ltb counter 255) (ticks 0 (counter + 1) 0)
    (pick (eqb (mode / 8 % 2) 1) (ticks 0 load 4) (ticks 0 0 4))))

unfoldable pub ticked_of : ℕ → ℕ → ℕ → ℕ → Tick
ticked_of prescaler counter load mode = ticked_by prescaler counter load mode (ratio_of mode)

-- the record with them
unfoldable pub time_set_of : Machine → ℕ → ℕ → Machine
time_set_of m prescaler counter = set_counter (set_prescaler m prescaler) counter
