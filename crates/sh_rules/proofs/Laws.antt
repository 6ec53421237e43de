-- What a byte past the map may be, and two judgements of which the first turns nothing down.
use Rattle.std.specs.Prelude.{Err, Ok, Result}
use mathlib.Core.Path.{◌≡◌, refl, sym}
use Prim.Native.Nat.{ℕ, ◌≤◌}
use native.Mathlib.Omega.{arith}
use lib.Dec.{eqb}
use lib.Bits.{and_zero_r}
use borrow.Author.Tests.{ne_eqb, eqb-true, eqb-false}
use Rattle.lent.proofs.Laws.{test}
use Rattle.sh_map.proofs.Laws.{held_past}
use Rattle.sh_rules.specs.Judge.{first_of}
use Rattle.sh_rules.specs.Rules.{cell_fits}
use Rattle.refusal.specs.declared.Refusal.{Refusal}

pub fits_past : (a v : ℕ) → 0x10000 ≤ a → eqb v 0 ≡ cell_fits a v
unfolding cell_fits
fits_past a v h = rw (held_past a (omega arith), and_zero_r v) (test (eqb v 0) (λ t. let e = eqb-true v 0 t in rw e) (λ t. rw (t, ne_eqb 0 v (λ q. eqb-false v 0 t (sym q)))))

-- where the first of two turns nothing down, neither does
pub first_fine : (a b : Result (Unit {0}) Refusal) → first_of a b ≡ Ok tt → (a ≡ Ok tt) × (b ≡ Ok tt)
unfolding first_of
first_fine (Ok tt) b e = (refl, e)
first_fine (Err why) b e = (e, cc)
