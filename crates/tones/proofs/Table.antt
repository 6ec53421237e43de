-- What is computed of a whole table says what holds at each place: of numbers that a rule makes, and of rows that pass a test.
use mathlib.Core.Path.{◌≡◌, ◌∙◌, ap, sym}
use mathlib.Core.Bool.{Bool, true}
use mathlib.Core.List.{List, [], ◌∷◌}
use Prim.Native.Nat.{ℕ, zero, suc, ◌+◌, ◌<◌}
use native.Mathlib.Omega.{arith}
use lib.Dec.{eqb}
use borrow.Author.Tests.{eqb-true}
use Rattle.lent.specs.Lent.{both, at}
use Rattle.lent.proofs.Laws.{both_true, test}
use Rattle.tones.specs.Tones.{beside}

-- n numbers by a rule, from i on
unfoldable pub made : (ℕ → ℕ) → ℕ → ℕ → List ℕ
made f zero i = []
made f (suc n) i = f i ∷ made f n (i + 1)

made_from : (f : ℕ → ℕ) (n i k : ℕ) → k < n → at (made f n i) k ≡ f (i + k)
unfolding made
made_from f zero i k h = absurd (omega arith)
made_from f (suc n) i zero h = let z : i + 0 ≡ i = omega arith in rw z
made_from f (suc n) i (suc k) h =
    let z : i + suc k ≡ i + 1 + k = omega arith in
    rw z (made_from f n (i + 1) k (omega arith))

pub made_at : (f : ℕ → ℕ) (n k : ℕ) → k < n → at (made f n 0) k ≡ f k
made_at f n k h = let z : 0 + k ≡ k = omega arith in rw z at (made_from f n 0 k h)

-- two rules that make the same numbers
pub same_at : (f g : ℕ → ℕ) (n k : ℕ) → made f n 0 ≡ made g n 0 → k < n → f k ≡ g k
same_at f g n k e h = sym (made_at f n k h) ∙ (ap (λ (l : List ℕ). at l k) e ∙ made_at g n k h)

-- every row passes a test of its value and its N
unfoldable pub rows : (ℕ → ℕ → Bool) → List (ℕ × ℕ) → Bool
rows f [] = true
rows f (r ∷ rs) = both (f r.0 r.1) (rows f rs)

pub row_beside : (f : ℕ → ℕ → Bool) (l : List (ℕ × ℕ)) (v : ℕ) → rows f l ≡ true → 0 < beside l v → f v (beside l v) ≡ true
unfolding rows beside
row_beside f [] v e h = absurd (omega arith)
row_beside f (r ∷ rs) v e h =
    let p = both_true (f r.0 r.1) (rows f rs) e in
    test (eqb r.0 v) (λ t. let q = eqb-true r.0 v t in rw (t, ← q) p.0)
    (λ t. rw t (row_beside f rs v p.1 (rw t at h)))
