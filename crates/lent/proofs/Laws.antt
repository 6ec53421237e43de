-- Laws on lists past their end, on tests and on one more element that every crate's proofs cite.
use Rattle.std.specs.Prelude.{None, Some}
use mathlib.Core.Path.{◌≡◌, ◌∙◌, refl, ap, sym}
use mathlib.Core.Bool.{Bool, true, false}
use mathlib.Core.List.{List, ◌∷◌, ◌++◌, append-nil}
use Prim.Native.Nat.{ℕ, suc, ◌+◌, ◌<◌, ◌≤◌}
use native.Mathlib.Omega.{arith}
use native.Mathlib.Nat.{zero-add}
use native.Mathlib.Numerals.{add-one}
use lib.Dec.{ltb, eqb}
use lib.ListN.{length, take, drop, set, drop_of_length-le, length-append, length-drop, get_or-eq_default}
use lib.Seq.{drop-cons, set_out, take-suc-set, drop-set-lt, take_all, append_snoc, take-length, take-append_seam, drop-append-add, drop-drop, paste}
use borrow.Author.Tests.{le-ltb, ltb-true, ltb-false, eqb-true, eqb-false}
use Rattle.lent.specs.Lent.{pick, both, at, pasted_of, map_from, fails_from}

-- what stands past the end is 0
pub at_past : (l : List ℕ) (i : ℕ) → length l ≤ i → 0 ≡ at l i
at_past l i h = sym (get_or-eq_default l 0 h)

-- a store past the end changes nothing
pub set_past : (l : List ℕ) (i v : ℕ) → length l ≤ i → l ≡ set l i v
set_past l i v h = sym (set_out l i v h)

-- bytes that fit, all of them copied
pub pasted_fits : (d : List ℕ) (i : ℕ) (s b : List ℕ) (k : ℕ) → b ≡ paste d i s k → k ≡ length s → i + length s ≤ length d → b ≡ pasted_of d i s
unfolding pasted_of
pasted_fits d i s b k e f h = rw (le-ltb (length d) (i + length s) h, e, f, take-length s)

-- bytes at the front
pub pasted_front : (d s : List ℕ) → length s ≤ length d → pasted_of d 0 s ≡ s ++ drop (length s) d
unfolding pasted_of
pasted_front d s h = rw (zero-add, le-ltb (length d) (length s) h)

-- bytes behind bytes at the front are the bytes of both at the front
behind_front : (d a s : List ℕ) → length a + length s ≤ length d → pasted_of (a ++ drop (length a) d) (length a) s ≡ (a ++ s) ++ drop (length (a ++ s)) d
unfolding pasted_of
behind_front d a s h =
    let k : length a + length s ≤ length (a ++ drop (length a) d) = omega (arith, length-append a (drop (length a) d), length-drop (length a) d) in
    rw (le-ltb (length (a ++ drop (length a) d)) (length a + length s) k, take-append_seam, drop-append-add, drop-drop, length-append)

pub pasted_on : (d a s : List ℕ) (i : ℕ) → length a ≡ i → i + length s ≤ length d → pasted_of (pasted_of d 0 a) i s ≡ pasted_of d 0 (a ++ s)
pasted_on d a s i e h =
    ap (λ (l : List ℕ). pasted_of l i s) (pasted_front d a (omega arith))
    ∙ (ap (λ (k : ℕ). pasted_of (a ++ drop (length a) d) k s) (sym e)
    ∙ (behind_front d a s (omega arith) ∙ sym (pasted_front d (a ++ s) (omega (arith, length-append a s)))))

-- what is left from i on: the element there, and what is left from i + 1 on
pub drop_more : (l : List ℕ) (i : ℕ) → i < length l → drop i l ≡ at l i ∷ drop (i + 1) l
drop_more l i h = rw (add-one i, drop-cons l i 0)

-- a test, either way
pub test : (b : Bool) {P : Type 0} → (b ≡ true → P) → (b ≡ false → P) → P
test true f g = f refl
test false f g = g refl

-- a test that fails does not hold
pub never : {P : Type 0} → false ≡ true → P
never e = let z : ◌≡◌ {A = ℕ} 0 1 = cc in absurd (omega arith)

-- both hold where each does
pub both_true : (a b : Bool) → both a b ≡ true → (a ≡ true) × (b ≡ true)
both_true true b e = (refl, e)
both_true false b e = absurd (apart e)
  where
    apart : false ≡ true → ⊥
    apart e = let z : ◌≡◌ {A = ℕ} 0 1 = cc in omega arith

-- what holds of both choices holds of the choice
pub by_test : {A : Type 0} (P : A → Type 0) (b : Bool) (x y : A) → (b ≡ true → P x) → (b ≡ false → P y) → P (pick b x y)
by_test P true x y f g = f refl
by_test P false x y f g = g refl

pub by_choice : {A : Type 0} (P : A → Type 0) (b : Bool) (x y : A) → P x → P y → P (pick b x y)
by_choice P b x y f g = by_test P b x y (λ _. f) (λ _. g)

pub by_lt : {A : Type 0} (P : A → Type 0) (m n : ℕ) (x y : A) → (m < n → P x) → (n ≤ m → P y) → P (pick (ltb m n) x y)
by_lt P m n x y f g = go (ltb m n) refl
  where
    go : (b : Bool) → ltb m n ≡ b → P (pick b x y)
    go true t = f (ltb-true m n t)
    go false t = g (ltb-false m n t)

pub by_eq : {A : Type 0} (P : A → Type 0) (m n : ℕ) (x y : A) → (m ≡ n → P x) → ((m ≡ n → ⊥) → P y) → P (pick (eqb m n) x y)
by_eq P m n x y f g = go (eqb m n) refl
  where
    go : (b : Bool) → eqb m n ≡ b → P (pick b x y)
    go true t = f (eqb-true m n t)
    go false t = g (eqb-false m n t)

-- A map by place as a loop does it: the first i elements are done, the rest is still to do.
module _ (f : ℕ → ℕ → ℕ) (l : List ℕ) (i : ℕ) where
  pub map_end : length l ≤ i → l ≡ take i l ++ map_from f (drop i l) i
  unfolding map_from
  map_end h = rw (drop_of_length-le l h, append-nil (take i l)) (sym (take_all i l h))

  pub map_on : i < length l → take (i + 1) (set l i (f i (at l i))) ++ map_from f (drop (i + 1) (set l i (f i (at l i)))) (i + 1) ≡ take i l ++ map_from f (drop i l) i
  unfolding map_from
  map_on h =
      let d : drop (suc i) (set l i (f i (at l i))) ≡ drop (suc i) l = drop-set-lt (suc i) l i (f i (at l i)) (omega arith) in
      rw (drop_more l i h, add-one i, take-suc-set l i (f i (at l i)) h, d) (append_snoc (take i l) (f i (at l i)) _)

-- A search as a loop does it: what is found from i on, where the loop ends, finds or goes on.
module _ (f : ℕ → ℕ → Bool) (l : List ℕ) (i : ℕ) where
  pub fails_end : length l ≤ i → None ≡ fails_from f (drop i l) i
  unfolding fails_from
  fails_end h = rw (drop_of_length-le l h)

  module _ (h : i < length l) (r : Bool) (e : r ≡ f i (at l i)) where
    pub fails_here : r ≡ false → Some i ≡ fails_from f (drop i l) i
    unfolding fails_from
    fails_here b = rw (drop_more l i h, ← e, b)

    pub fails_on : r ≡ true → fails_from f (drop (i + 1) l) (i + 1) ≡ fails_from f (drop i l) i
    unfolding fails_from
    fails_on b = rw (drop_more l i h, ← e, b)
