-- What a tested branch returns, and numbers that a loop writes one by one.
use mathlib.Core.Path.{◌≡◌, ◌∙◌, sym, ap}
use mathlib.Core.Bool.{Bool, true, false}
use mathlib.Core.List.{List}
use Prim.Native.Nat.{ℕ, ◌+◌, ◌<◌}
use native.Mathlib.Omega.{arith}
use lib.Dec.{eqb}
use lib.ListN.{length, set}
use lib.Seq.{get_or-set_same, get_or-set_other}
use borrow.Author.Tests.{eqb-true, eqb-false}
use Rattle.lent.specs.Lent.{pick, at}
use Rattle.lent.proofs.Laws.{test}

pub pick_on : {A : Type 0} {b t : Bool} {r x : A} (y : A) → b ≡ t → b ≡ true → r ≡ x → r ≡ pick t x y
pick_on y e h q = rw (← e, h) q

pub pick_off : {A : Type 0} {b t : Bool} {r y : A} (x : A) → b ≡ t → b ≡ false → r ≡ y → r ≡ pick t x y
pick_off x e h q = rw (← e, h) q

-- one number more follows the rule
pub ruled_on : (f : ℕ → ℕ) (l : List ℕ) (i v : ℕ) → i < length l → ((k : ℕ) → k < i → at l k ≡ f k) → v ≡ f i → (k : ℕ) → k < i + 1 → at (set l i v) k ≡ f k
ruled_on f l i v h r e k j =
    test (eqb k i)
    (λ t. let q = eqb-true k i t in ap (at (set l i v)) q ∙ (get_or-set_same l i v 0 h ∙ (e ∙ ap f (sym q))))
    (λ t. let q = eqb-false k i t in get_or-set_other l i k v 0 q ∙ r k (omega arith))
