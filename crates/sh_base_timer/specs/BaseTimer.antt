-- The base timer (003, 8; 01, "Events": Base). Its mode is $003.
use Rattle.std.specs.Prelude.{ℕ, ◌+◌, ltb, eqb}
use Rattle.lent.specs.Lent.{pick}
use Rattle.sh_state.specs.declared.machine.Machine.{Machine}
use Rattle.sh_periods.specs.Periods.{base_ratio_of, base_on}
use Rattle.sh_state.specs.Record.{set_base_prescaler, set_base_counter}
use Rattle.sh_timers.specs.declared.request.Moved.{Moved}
use Rattle.sh_timers.specs.Request.{moved}

-- one count: 255 plus one gives 0 and IRQBT
unfoldable pub base_counted_of : Machine → Moved
base_counted_of m =
    pick (ltb m.basecounter 255) (moved (set_base_counter m (m.basecounter + 1)) 0) (moved (set_base_counter m 0) 2)

-- a pulse through the prescaler: every ratio-th is a count
unfoldable pub base_prescaled_by : Machine → ℕ → Moved
base_prescaled_by m ratio =
    pick (ltb (m.baseprescaler + 1) ratio)
    (moved (set_base_prescaler m (m.baseprescaler + 1)) 0)
    (base_counted_of (set_base_prescaler m 0))

unfoldable pub base_prescaled_of : Machine → ℕ → Moved
base_prescaled_of m mode = base_prescaled_by m (base_ratio_of mode)

-- a base pulse: nothing in STOP, nothing when the base timer is off
unfoldable pub base_pulsed_of : Machine → ℕ → Moved
base_pulsed_of m mode = pick (eqb m.mode 2) (moved m 0) (pick (base_on mode) (base_prescaled_of m mode) (moved m 0))
