-- A clock is what becomes of the prescaler and the counter.
use mathlib.Core.Path.{◌≡◌}
use Prim.Native.Nat.{ℕ, ◌+◌, ◌/◌, ◌%◌}
use lib.Dec.{ltb, eqb}
use Rattle.lent.proofs.Laws.{test}
use Rattle.sh_periods.specs.Periods.{ratio_of}
use Rattle.sh_state.specs.declared.machine.Machine.{Machine}
use Rattle.sh_state.specs.Record.{set_prescaler, set_counter}
use Rattle.sh_timers.specs.declared.request.Moved.{Moved}
use Rattle.sh_timers.specs.declared.timer0.Tick.{Tick}
use Rattle.sh_timers.specs.Request.{moved}
use Rattle.sh_timers.specs.Ticked.{ticked_by, ticked_of, time_set_of}
use Rattle.sh_timers.specs.Timer0.{reload_of, counted_of, prescaled_by, prescaled_of, clocked_of}

-- a record with what became of them
abbrev with_ticks : Machine → Tick → Moved
with_ticks m t = moved (time_set_of m t.prescaler t.counter) t.requests

module _ (m : Machine) (mode : ℕ) where
  pub clock_ticks : with_ticks m (ticked_of m.prescaler m.counter m.load mode) ≡ clocked_of m mode
  unfolding ticked_of ticked_by clocked_of prescaled_of prescaled_by counted_of reload_of time_set_of set_prescaler set_counter
  clock_ticks =
      test (eqb (mode % 8) 7) (λ t. rw t)
      (λ t. test (ltb (m.prescaler + 1) (ratio_of mode)) (λ u. rw (t, u))
      (λ u. test (ltb m.counter 255) (λ v. rw (t, u, v))
      (λ v. test (eqb (mode / 8 % 2) 1) (λ w. rw (t, u, v, w)) (λ w. rw (t, u, v, w)))))
