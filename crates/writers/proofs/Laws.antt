-- The list of writers as it is counted, and as a loop over the program stores it.
use Rattle.std.specs.Prelude.{Ok, count_by, filter}
use Rattle.std.proofs.lemmas.List.Sums.{length-filter}
use mathlib.Core.Path.{◌≡◌, ◌∙◌, refl}
use mathlib.Core.Bool.{Bool, true, false, cond}
use mathlib.Core.List.{List, [], ◌∷◌, ◌++◌}
use Prim.Native.Nat.{ℕ, suc, ◌+◌, ◌<◌, ◌≤◌}
use native.Mathlib.Nat.{zero-add}
use native.Mathlib.Numerals.{add-one}
use native.Mathlib.Omega.{arith}
use borrow.Author.Tests.{le-ltb}
use lib.ListN.{length, take, drop, set, drop_of_length-le, take-append-drop}
use lib.Seq.{take-suc-set, drop-set-lt, append_snoc}
use Rattle.lent.specs.Lent.{over, pick, at}
use Rattle.lent.proofs.Laws.{by_choice, drop_more}
use Rattle.sh_map.specs.Map.{askable_in, askable_of}
use Rattle.sh_map.proofs.Laws.{kind_past}
use Rattle.writers.specs.Test.{writes_of}
use Rattle.lent.specs.Outcome.{outcome}
use Rattle.writers.specs.Answer.{filled_of}
use Rattle.writers.specs.List.{writers_from}

-- past the map no cell can be asked for
pub askable_past : (c : ℕ) → 0x10000 ≤ c → false ≡ askable_of c
unfolding askable_of askable_in
askable_past c h = rw (kind_past c (omega arith))

-- The writers among the words from address a on.
module _ (p : List ℕ) (c a : ℕ) where
  pub none_left : length p ≤ a → writers_from a (drop a p) c ≡ []
  unfolding writers_from
  none_left h = rw (drop_of_length-le p h)

  module _ (h : a < length p) (r : Bool) (e : r ≡ writes_of (at p a) c) where
    pub one_here : r ≡ true → writers_from a (drop a p) c ≡ a ∷ writers_from (a + 1) (drop (a + 1) p) c
    unfolding writers_from
    one_here t = rw (drop_more p a h, ← e, t)

    pub none_here : r ≡ false → writers_from a (drop a p) c ≡ writers_from (a + 1) (drop (a + 1) p) c
    unfolding writers_from
    none_here t = rw (drop_more p a h, ← e, t)

-- no more writers than words
pub few : (a : ℕ) (p : List ℕ) (c : ℕ) → length (writers_from a p c) ≤ length p
unfolding writers_from
few a [] c = omega arith
few a (w ∷ p) c = by_choice (λ (l : List ℕ). length l ≤ length (w ∷ p)) (writes_of w c) _ _ (omega (arith, few (a + 1) p c)) (omega (arith, few (a + 1) p c))

-- how many there are
one_more : (b : Bool) (a w : ℕ) (l m : List ℕ) → length l ≡ length m → length (pick b (a ∷ l) l) ≡ length (cond b (w ∷ m) m)
one_more true a w l m e = omega arith
one_more false a w l m e = e

tested : (a : ℕ) (p : List ℕ) (c : ℕ) → length (writers_from a p c) ≡ length (filter (λ v. writes_of v c) p)
unfolding writers_from
tested a [] c = refl
tested a (w ∷ p) c = one_more (writes_of w c) a w (writers_from (a + 1) p c) (filter (λ v. writes_of v c) p) (tested (a + 1) p c)

pub writers_count : (a : ℕ) (p : List ℕ) (c : ℕ) → length (writers_from a p c) ≡ count_by (λ v. writes_of v c) p
writers_count a p c = tested a p c ∙ length-filter (λ v. writes_of v c) p

-- A room whose first n entries are written, and the entries l that are still to be written.
unfoldable pub placed : ℕ → List ℕ → List ℕ → List ℕ
placed n l o = take n o ++ (l ++ drop (n + length l) o)

pub placed_start : (l o : List ℕ) → placed 0 l o ≡ over l o
unfolding placed over
placed_start l o = rw zero-add

pub placed_end : (n : ℕ) (o : List ℕ) → placed n [] o ≡ o
unfolding placed
placed_end n o = let z : n + 0 ≡ n = omega arith in rw z (take-append-drop n o)

pub placed_on : (n a : ℕ) (l o : List ℕ) → n < length o → placed (n + 1) l (set o n a) ≡ placed n (a ∷ l) o
unfolding placed
placed_on n a l o h =
    let z : n + suc (length l) ≡ suc n + length l = omega arith in
    let d : drop (suc n + length l) (set o n a) ≡ drop (suc n + length l) o = drop-set-lt (suc n + length l) o n a (omega arith) in
    rw (z, add-one n, take-suc-set o n a h, d) (append_snoc (take n o) a _)

-- a list that has room
pub in_room : (l o o' : List ℕ) (n : ℕ) → n ≡ length l → length l ≤ length o → o' ≡ over l o → outcome (Ok n) o' ≡ filled_of l o
unfolding filled_of
in_room l o o' n q k u = rw (le-ltb (length o) (length l) k, q, u)
