-- A listing as loops write and read it: what is done, and what is still to be done.
use Rattle.std.specs.Prelude.{true, false, Err, None, Ok, Some}
use mathlib.Core.Path.{◌≡◌, ◌∙◌, refl, sym, ap}
use mathlib.Core.List.{List, [], ◌∷◌, ◌++◌, append-nil}
use Prim.Native.Nat.{ℕ, suc, ◌+◌, ◌-◌, ◌<◌, ◌≤◌}
use native.Mathlib.Omega.{arith}
use native.Mathlib.Numerals.{add-one}
use lib.ListN.{length, drop, set, drop_of_length-le, length-append}
use lib.Seq.{drop-drop}
use borrow.Author.Tests.{lt-ltb, le-ltb, eq-eqb, ne_eqb}
use Rattle.lent.specs.Lent.{at, over}
use Rattle.lent.specs.Outcome.{outcome}
use Rattle.lent.proofs.Laws.{drop_more}
use Rattle.refusal.specs.declared.Refusal.TheVariants.{ProgramLength, Room, Listing}
use Rattle.text.specs.Text.{laid_of}
use Rattle.text.proofs.Laws.{laid_none, laid_on, laid_front}
use Rattle.line.specs.Line.{line_of, line_in}
use Rattle.line.proofs.Laws.{line_same}
use Rattle.paper.specs.Listing.{lines_of, listing_of, placed_of, write_of, good_from, good_lines, whole, stored_of, read_of}

-- an element laid first, and then the rest
pub laid_first : (l : List ℕ) (p x : ℕ) (s : List ℕ) → laid_of (set l p x) (p + 1) s ≡ laid_of l p (x ∷ s)
unfolding laid_of
laid_first l p x s = rw (add-one p)

-- The lines of a program from an address on.
module _ (p : List ℕ) (a : ℕ) where
  pub lines_none : length p ≤ a → lines_of a (drop a p) ≡ []
  unfolding lines_of
  lines_none h = rw (drop_of_length-le p h)

  pub lines_more : a < length p → lines_of a (drop a p) ≡ line_of a (at p a) ++ lines_of (a + 1) (drop (a + 1) p)
  unfolding lines_of
  lines_more h = rw (drop_more p a h)

  -- one line more is counted
  pub size_on : (n m : ℕ) {t : ℕ} → a < length p → m ≡ length (line_of 0 (at p a)) → n + length (lines_of a (drop a p)) ≡ t → n + m + length (lines_of (a + 1) (drop (a + 1) p)) ≡ t
  size_on n m h e f =
      let g = ap length (lines_more h) in
      omega (arith, g, length-append (line_of a (at p a)) (lines_of (a + 1) (drop (a + 1) p)), line_same a (at p a))

  -- one line more is laid
  pub fill_on : (l : List ℕ) {l' : List ℕ} (q : ℕ) {e : ℕ} → a < length p → e ≡ q + length (line_of a (at p a)) → l' ≡ laid_of l q (line_of a (at p a)) → laid_of l' e (lines_of (a + 1) (drop (a + 1) p)) ≡ laid_of l q (lines_of a (drop a p))
  fill_on l q h e f = rw (e, f, lines_more h) (laid_on l q (line_of a (at p a)) (lines_of (a + 1) (drop (a + 1) p)))

pub fill_end : (p : List ℕ) (a : ℕ) (l : List ℕ) (q : ℕ) → length p ≤ a → l ≡ laid_of l q (lines_of a (drop a p))
fill_end p a l q h = rw (lines_none p a h) (sym (laid_none l q))

-- The writer's answers.
module _ (p o : List ℕ) where
  pub other_length : (length p ≡ 4096 → ⊥) → outcome (Err (ProgramLength (length p))) o ≡ write_of p o
  unfolding write_of
  other_length h = rw (ne_eqb (length p) 4096 h)

  module _ (h : length p ≡ 4096) {n : ℕ} (e : n ≡ length (listing_of p)) where
    pub no_room : length o < n → outcome (Err (Room n)) o ≡ write_of p o
    unfolding write_of placed_of
    no_room k = rw (eq-eqb (length p) 4096 h, ← e, lt-ltb (length o) n k)

    pub in_room : {o' : List ℕ} → n ≤ length o → o' ≡ laid_of o 0 (listing_of p) → outcome (Ok n) o' ≡ write_of p o
    unfolding write_of placed_of
    in_room k f = rw (eq-eqb (length p) 4096 h, ← e, le-ltb (length o) n k, f, laid_front o (listing_of p) (omega arith))

-- The good lines from an address on.
module _ (a : ℕ) (t : List ℕ) where
  pub good_end : 4096 ≤ a → good_from (4096 - a) a t ≡ []
  unfolding good_from
  good_end h = let z : 4096 - a ≡ 0 = omega arith in rw z

  module _ (h : a < 4096) where
    good_stop : line_in a t ≡ None → good_from (4096 - a) a t ≡ []
    unfolding good_from
    good_stop e = let z : 4096 - a ≡ suc (4096 - (a + 1)) = omega arith in rw (z, e)

    good_more : (w : ℕ) → line_in a t ≡ Some w → good_from (4096 - a) a t ≡ w ∷ good_from (4096 - (a + 1)) (a + 1) (drop (length (line_of a w)) t)
    unfolding good_from
    good_more w e = let z : 4096 - a ≡ suc (4096 - (a + 1)) = omega arith in rw (z, e)

module _ (t : List ℕ) (a p : ℕ) (h : a < 4096) where
  -- no good line more
  pub good_off : line_in a (drop p t) ≡ None → good_from (4096 - a) a (drop p t) ≡ []
  good_off e = good_stop a (drop p t) h e

  -- one good line more
  pub good_on : (w m : ℕ) → line_in a (drop p t) ≡ Some w → m ≡ length (line_of 0 w) → good_from (4096 - a) a (drop p t) ≡ w ∷ good_from (4096 - (a + 1)) (a + 1) (drop (p + m) t)
  good_on w m e k =
      let z : length (line_of a w) ≡ m = line_same a w ∙ sym k in
      good_more a (drop p t) h w e ∙ rw (z, drop-drop m p t)

-- no lines are left: what was counted and laid is all
pub ended : (a p : ℕ) (w : List ℕ) {g : List ℕ} {n e : ℕ} {o : List ℕ} → g ≡ [] → a + length g ≡ n → p + length (lines_of a g) ≡ e → laid_of w a g ≡ o → ((a ≡ n) × (p ≡ e)) × (w ≡ o)
unfolding lines_of
ended a p w z x y l =
    let b : length (lines_of a []) ≡ 0 = refl in
    ((omega (arith, ap length z), omega (arith, b, ap (λ (s : List ℕ). length (lines_of a s)) z)), sym (laid_none w a) ∙ (ap (laid_of w a) (sym z) ∙ l))

-- words at the front
pub over_front : (o : List ℕ) {w s : List ℕ} → s ≡ w → s ++ drop (length w) o ≡ over w o
unfolding over
over_front o e = rw e

-- the lines of one word more
pub lines_on : (a w : ℕ) (p : List ℕ) → length (lines_of a (w ∷ p)) ≡ length (line_of 0 w) + length (lines_of (a + 1) p)
unfolding lines_of
lines_on a w p = omega (arith, length-append (line_of a w) (lines_of (a + 1) p), line_same a w)

-- Whether a text is a listing and no more, by its good lines and where they end.
module _ (t : List ℕ) {n e : ℕ} (f : n ≡ length (good_lines t)) (g : e ≡ length (listing_of (good_lines t))) where
  pub whole_few : (n ≡ 4096 → ⊥) → (whole t ≡ false) × (n ≡ length (good_lines t))
  unfolding whole
  whole_few h = (rw (← f, ne_eqb n 4096 h), f)

  module _ (h : n ≡ 4096) where
    pub whole_behind : (e ≡ length t → ⊥) → (whole t ≡ false) × (4096 ≡ length (good_lines t))
    unfolding whole
    whole_behind k = (rw (← f, ← g, eq-eqb n 4096 h, ne_eqb e (length t) k), sym h ∙ f)

    -- 4,096 words fill the words that were there
    pub whole_all : (o : List ℕ) {w : List ℕ} → e ≡ length t → length o ≡ 4096 → w ≡ laid_of o 0 (good_lines t) → (whole t ≡ true) × (w ≡ good_lines t)
    unfolding whole over
    whole_all o k l q =
        let r : length o ≤ length (good_lines t) = omega arith in
        let s : length (good_lines t) ≤ length o = omega arith in (
          rw (← f, ← g, eq-eqb n 4096 h, eq-eqb e (length t) k),
          q ∙ (laid_front o (good_lines t) s ∙ (ap (λ (l : List ℕ). good_lines t ++ l) (drop_of_length-le o r) ∙ append-nil (good_lines t))),
        )

-- The reader's answers.
module _ (t o : List ℕ) where
  pub read_none : whole t ≡ false → outcome (Err (Listing (length (good_lines t)))) o ≡ read_of t o
  unfolding read_of
  read_none f = rw f

  pub few_words : whole t ≡ true → length o < 4096 → outcome (Err (Room 4096)) o ≡ read_of t o
  unfolding read_of stored_of
  few_words f r = rw (f, lt-ltb (length o) 4096 r)

  pub words_stored : {w o' : List ℕ} → whole t ≡ true → w ≡ good_lines t → 4096 ≤ length o → o' ≡ over w o → outcome (Ok tt) o' ≡ read_of t o
  unfolding read_of stored_of
  words_stored f q r u = rw (f, le-ltb (length o) 4096 r, u, q)
