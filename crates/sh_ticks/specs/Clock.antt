-- The machine of PC, AC, CY and a number of Timer0's clocks (003, 7): what a stretch of quiet cycles leaves.
use Rattle.std.specs.Prelude.{ℕ, ◌+◌, ◌-◌, ◌*◌, ◌/◌, ◌%◌, ◌≡◌, List, ltb, eqb}
use Rattle.lent.specs.Lent.{pick, at}
use Rattle.sh_state.specs.declared.machine.Machine.{Machine}
use Rattle.sh_state.specs.Record.{set_prescaler, set_counter}
use Rattle.sh_periods.specs.Periods.{ratio_of}
use Rattle.sh_interrupts.specs.Interrupt.{due_of}

-- the clocks that Timer0 has counted since its counter was 0, and n more
unfoldable pub clocks_of : Machine → ℕ → ℕ → ℕ
clocks_of m ratio n = m.counter * ratio + m.prescaler + n

-- n clocks by the mode in $002, none of them past the counter's 255
unfoldable pub timed_of : Machine → ℕ → ℕ → Machine
timed_of m mode n =
    pick (eqb (mode % 8) 7) m
    (set_counter (set_prescaler m (clocks_of m (ratio_of mode) n % ratio_of mode)) (clocks_of m (ratio_of mode) n / ratio_of mode))

-- how many clocks there are until Timer0 would go past 255; none where the prescaler is past its ratio
unfoldable pub room_of : Machine → ℕ → ℕ
room_of m mode =
    pick (eqb (mode % 8) 7) 0xFFFFFFFF
    (pick (ltb m.prescaler (ratio_of mode)) (256 * ratio_of mode - clocks_of m (ratio_of mode) 1) 0)

-- nothing is due, no read is pending, and Timer0 goes by the mode
pub record Quiet (m : Machine) (l : List ℕ) (mode : ℕ) : Type 0 where
  pub pending : m.pending ≡ 0
  pub address : m.address ≡ 0
  pub due : due_of l ≡ 0
  pub timer : at l 0x02 ≡ mode
