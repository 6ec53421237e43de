-- Tests that hold together, and a test computed at each number below a bound: what they say.
use mathlib.Core.Path.{◌≡◌, refl}
use mathlib.Core.Bool.{Bool, true, false}
use Prim.Native.Nat.{ℕ, zero, suc, ◌<◌}
use native.Mathlib.Omega.{arith}
use lib.Dec.{ltb, eqb}
use borrow.Author.Tests.{ltb-true, eqb-true, eqb-false}
use Rattle.lent.specs.Lent.{pick, both}
use Rattle.lent.proofs.Laws.{both_true, test}

pub pick_hold : (a b : Bool) → pick a b false ≡ true → (a ≡ true) × (b ≡ true)
pick_hold true b e = (refl, e)
pick_hold false b e = let z : ◌≡◌ {A = ℕ} 0 1 = cc in absurd (omega arith)

pub lt_hold : (m n : ℕ) (b : Bool) → pick (ltb m n) b false ≡ true → (m < n) × (b ≡ true)
lt_hold m n b e = let p = pick_hold (ltb m n) b e in (ltb-true m n p.0, p.1)

unfoldable pub below : ℕ → (ℕ → Bool) → Bool
below zero f = true
below (suc n) f = both (f n) (below n f)

pub below_at : (n : ℕ) (f : ℕ → Bool) (i : ℕ) → below n f ≡ true → i < n → f i ≡ true
unfolding below
below_at zero f i e h = absurd (omega arith)
below_at (suc n) f i e h =
    let p = both_true (f n) (below n f) e in
    test (eqb i n) (λ t. let q = eqb-true i n t in rw q p.0)
    (λ t. let q = eqb-false i n t in below_at n f i p.1 (omega arith))

-- the same for pairs
pub below_pair : (m n : ℕ) (f : ℕ → ℕ → Bool) (i j : ℕ) → below m (λ a. below n (f a)) ≡ true → i < m → j < n → f i j ≡ true
below_pair m n f i j e h k = below_at n (f i) j (below_at m (λ a. below n (f a)) i e h) k
