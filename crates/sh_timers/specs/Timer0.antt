-- Timer0 (003, 7; 01, "Events": Timer0). Its mode is $002.
use Rattle.std.specs.Prelude.{ℕ, ◌+◌, ◌/◌, ◌%◌, ltb, eqb}
use Rattle.lent.specs.Lent.{pick}
use Rattle.sh_state.specs.declared.machine.Machine.{Machine}
use Rattle.sh_periods.specs.Periods.{ratio_of}
use Rattle.sh_state.specs.Record.{set_prescaler, set_counter}
use Rattle.sh_timers.specs.declared.request.Moved.{Moved}
use Rattle.sh_timers.specs.Request.{moved}

-- bit 3 of $002 is auto-reload: after 255 comes the load, else 0
unfoldable pub reload_of : Machine → ℕ → ℕ
reload_of m mode = pick (eqb (mode / 8 % 2) 1) m.load 0

-- one count: 255 plus one sets IRQT0
unfoldable pub counted_of : Machine → ℕ → Moved
counted_of m mode =
    pick (ltb m.counter 255) (moved (set_counter m (m.counter + 1)) 0) (moved (set_counter m (reload_of m mode)) 4)

-- one system clock through a prescaler: every ratio-th is a count
unfoldable pub prescaled_by : Machine → ℕ → ℕ → Moved
prescaled_by m mode ratio =
    pick (ltb (m.prescaler + 1) ratio) (moved (set_prescaler m (m.prescaler + 1)) 0) (counted_of (set_prescaler m 0) mode)

unfoldable pub prescaled_of : Machine → ℕ → Moved
prescaled_of m mode = prescaled_by m mode (ratio_of mode)

-- one system clock: bits 2-0 of 7 count pins and no clocks
unfoldable pub clocked_of : Machine → ℕ → Moved
clocked_of m mode = pick (eqb (mode % 8) 7) (moved m 0) (prescaled_of m mode)

-- a falling edge of PORTA.0 as input (1, or 0 for none): counted when bits 2-0 are 7, not in STOP, without prescaler
unfoldable pub fallen_of : Machine → ℕ → ℕ → Moved
fallen_of m mode falling =
    pick (eqb falling 0) (moved m 0) (pick (eqb m.mode 2) (moved m 0) (pick (eqb (mode % 8) 7) (counted_of m mode) (moved m 0)))
