-- A pulse that does not expire keeps a well-formed machine well formed.
use Prim.Native.Nat.{◌%◌}
use native.Mathlib.Omega.{arith}
use Rattle.lent.proofs.Laws.{by_lt, by_eq}
use Rattle.sh_state.specs.State.{State, state}
use Rattle.sh_rules.proofs.Fits.{Fit, watchdog_fits_lem}
use Rattle.sh_watchdog.specs.Watchdog.{counted_down_of}

pub counted_down_keeps : {s : State} → Fit s → Fit (state (counted_down_of s.machine) s.memory)
unfolding counted_down_of
counted_down_keeps {s} f =
    let g = f.machine in
    by_eq (λ m. Fit (state m s.memory)) (s.machine.options % 2) 1 _ _
    (λ e. by_lt (λ m. Fit (state m s.memory)) 1 s.machine.watchdog _ _ (λ h. record { memory = f.memory; machine = watchdog_fits_lem g _ _ (omega arith) (omega arith) })
    (λ h. f))
    (λ n. f)
