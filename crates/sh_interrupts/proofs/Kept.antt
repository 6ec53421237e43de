-- An interrupt keeps a well-formed machine well formed.
use mathlib.Core.Path.{refl}
use Prim.Native.Nat.{ℕ, ◌<◌}
use native.Mathlib.Omega.{arith}
use Rattle.lent.proofs.Laws.{by_lt}
use Rattle.sh_state.specs.State.{State}
use Rattle.sh_rules.proofs.Fits.{Fit, pc_fits, push_fits, entry_small, store_keeps}
use Rattle.sh_interrupts.specs.Interrupt.{vector_of, entered_of, interrupted_of}

pub vector_small : (due : ℕ) → vector_of due < 4096
unfolding vector_of
vector_small due =
    by_lt (λ v. v < 4096) 7 due _ _ (λ h. omega arith)
    (λ h. by_lt (λ v. v < 4096) 3 due _ _ (λ h. omega arith) (λ h. by_lt (λ v. v < 4096) 1 due _ _ (λ h. omega arith) (λ h. omega arith)))

pub interrupted_keeps : {s : State} → Fit s → (due : ℕ) → Fit (interrupted_of s due)
unfolding interrupted_of entered_of
interrupted_keeps {s} f due =
    store_keeps (record { memory = f.memory; machine = pc_fits (push_fits f.machine _ (entry_small _ _)) _ (vector_small due) }) 0x00 0 (omega arith) refl
