-- Writer and reader are inverse to each other: a program's listing reads back as the program, and no other text is taken; 26 tells the first bad line.
use Rattle.std.specs.Prelude.{Err, None, Ok, Option, Result, Some}
use mathlib.Core.Path.{◌≡◌, ◌∙◌, refl, sym, ap}
use mathlib.Core.Bool.{true}
use mathlib.Core.List.{List, [], ◌∷◌, ◌++◌, append-nil}
use Prim.Native.Nat.{ℕ, zero, suc, ◌+◌, ◌*◌, ◌<◌, ◌≤◌}
use native.Mathlib.Omega.{arith}
use lib.Dec.{eqb}
use lib.ListN.{length, take, drop, drop_of_length-le, length-append, length-take}
use lib.Seq.{take_all, take-append_seam}
use borrow.Author.Tests.{eq-eqb, eqb-true}
use Rattle.lent.specs.Lent.{over}
use Rattle.lent.specs.Outcome.{Outcome, outcome}
use Rattle.lent.proofs.Laws.{both_true, by_test, by_lt, by_eq, never}
use Rattle.refusal.specs.declared.Refusal.{Refusal}
use Rattle.refusal.specs.declared.Refusal.TheVariants.{Room, Listing}
use Rattle.text.specs.Text.{begins}
use Rattle.text.proofs.Laws.{both_of_lem, begins_none, begins_append, begins_own, begins_split}
use Rattle.line.specs.Line.{line_of, line_in}
use Rattle.line.proofs.Laws.{line_few}
use Rattle.line.proofs.Exact.{good_read, read_good}
use Rattle.paper.specs.Listing.{lines_of, listing_of, placed_of, write_of, word_first, good_from, good_lines, whole, stored_of, read_of, AllWords, FirstBad, Listed}

-- The good lines from an address on.

by_word : (P : List ℕ → Type 0) (o : Option ℕ) (f : ℕ → List ℕ) → P [] → ((w : ℕ) → o ≡ Some w → P (w ∷ f w)) → P (word_first o f)
by_word P None f x y = x
by_word P (Some w) f x y = y w refl

good_few : (n a : ℕ) (t : List ℕ) → length (good_from n a t) ≤ n
unfolding good_from
good_few zero a t = omega arith
good_few (suc n) a t =
    by_word (λ (l : List ℕ). length l ≤ suc n) (line_in a t) _ (omega arith) (λ w e. omega (arith, good_few n (a + 1) (drop (length (line_of a w)) t)))

one_more : (w : ℕ) (p : List ℕ) → w < 65536 → AllWords p → AllWords (w ∷ p)
one_more w p h f zero = h
one_more w p h f (suc i) = f i

one_less : (w : ℕ) (p : List ℕ) → AllWords (w ∷ p) → AllWords p
one_less w p f i = f (suc i)

good_sized : (n a : ℕ) (t : List ℕ) → AllWords (good_from n a t)
unfolding good_from
good_sized zero a t = λ i. omega arith
good_sized (suc n) a t =
    by_word AllWords (line_in a t) _ (λ i. omega arith)
    (λ w e. one_more w (good_from n (a + 1) (drop (length (line_of a w)) t)) (read_good a t e).fits (good_sized n (a + 1) (drop (length (line_of a w)) t)))

-- they stand in front
good_front : (n a : ℕ) (t : List ℕ) → begins (lines_of a (good_from n a t)) t ≡ true
unfolding good_from lines_of
good_front zero a t = begins_none t
good_front (suc n) a t =
    by_word (λ (p : List ℕ). begins (lines_of a p) t ≡ true) (line_in a t) _ (begins_none t)
    (λ w e.
    let l = line_of a w in
    let r = drop (length l) t in
    begins_append l (lines_of (a + 1) (good_from n (a + 1) r)) t
    ∙ both_of_lem (begins l t) (begins (lines_of (a + 1) (good_from n (a + 1) r)) r) (read_good a t e).there (good_front n (a + 1) r))

-- and every row of lines that stands in front is among them
good_most : (n a : ℕ) (p t : List ℕ) → length p ≤ n → AllWords p → begins (lines_of a p) t ≡ true → take (length p) (good_from n a t) ≡ p
unfolding good_from lines_of
good_most n a [] t h f e = refl
good_most zero a (w ∷ p) t h f e = absurd (omega arith)
good_most (suc n) a (w ∷ p) t h f e =
    let b = both_true (begins (line_of a w) t) (begins (lines_of (a + 1) p) (drop (length (line_of a w)) t)) (sym (begins_append (line_of a w) (lines_of (a + 1) p) t) ∙ e) in
    rw (good_read a w t (f 0) b.0) (ap (λ (q : List ℕ). w ∷ q) (good_most n (a + 1) p (drop (length (line_of a w)) t) (omega arith) (one_less w p f) b.1))

-- THE PROGRAM'S LISTING reads back as the program.

begins_itself : (s : List ℕ) → begins s s ≡ true
begins_itself s = ap (begins s) (sym (append-nil s)) ∙ begins_own s []

pub lines_back : (p : List ℕ) → length p ≡ 4096 → AllWords p → good_lines (listing_of p) ≡ p
unfolding good_lines listing_of
lines_back p n f =
    let g = good_from 4096 0 (lines_of 0 p) in
    let m = good_few 4096 0 (lines_of 0 p) in
    let h : length g ≤ length p = omega arith in
    sym (take_all (length p) g h) ∙ good_most 4096 0 p (lines_of 0 p) (omega arith) f (begins_itself (lines_of 0 p))

whole_own : (p : List ℕ) → length p ≡ 4096 → AllWords p → whole (listing_of p) ≡ true
unfolding whole
whole_own p n f = rw (lines_back p n f, eq-eqb (length p) 4096 n, eq-eqb (length (listing_of p)) (length (listing_of p)) refl)

-- for every program: "What is written reads back equal"
pub read_back : (p room : List ℕ) → length p ≡ 4096 → AllWords p → read_of (listing_of p) room ≡ stored_of p room
unfolding read_of
read_back p room n f = rw (whole_own p n f, lines_back p n f)

apart_written : {why : Refusal} {n : ℕ} {A : Type 0} → Err why ≡ Ok n → A
apart_written e = let z : ◌≡◌ {A = ℕ} 0 1 = cc in absurd (omega arith)

bytes_of : {m n : ℕ} → ◌≡◌ {A = Result ℕ Refusal} (Ok m) (Ok n) → m ≡ n
bytes_of e = cc

told : {a : Result ℕ Refusal} {o : List ℕ} {r : Outcome (Result ℕ Refusal)} → r ≡ outcome a o → r.answer ≡ a
told e = ap (λ (x : Outcome (Result ℕ Refusal)). x.answer) e

-- what the writer's call has written: so many bytes of its room are the listing
pub written_is : (p room o : List ℕ) (n : ℕ) → write_of p room ≡ outcome (Ok n) o → (length p ≡ 4096) × (take n o ≡ listing_of p)
unfolding write_of placed_of over
written_is p room o n =
    let l = listing_of p in
    let Says : Outcome (Result ℕ Refusal) → Type 0 = λ r. r ≡ outcome (Ok n) o → (length p ≡ 4096) × (take n o ≡ l) in
    by_eq Says (length p) 4096 _ _
    (λ h. by_lt Says (length room) (length l) _ _ (λ k e. apart_written (told e))
    (λ k e.
    let m = bytes_of (told e) in
    let f : l ++ drop (length l) room ≡ o = ap (λ (x : Outcome (Result ℕ Refusal)). x.room) e in
    (h, rw (← m, ← f) (take-append_seam l (drop (length l) room)))))
    (λ h e. apart_written (told e))

-- and the reader's call, given them, reads the program
pub written_back : (p room o : List ℕ) (n : ℕ) (r : List ℕ) → AllWords p → write_of p room ≡ outcome (Ok n) o → read_of (take n o) r ≡ stored_of p r
written_back p room o n r f e =
    let w = written_is p room o n e in
    ap (λ (t : List ℕ). read_of t r) w.1 ∙ read_back p r w.0 f

-- two programs with one listing are one program
pub one_listing : (p q : List ℕ) → length p ≡ 4096 → AllWords p → length q ≡ 4096 → AllWords q → listing_of p ≡ listing_of q → p ≡ q
one_listing p q n f m g e = sym (lines_back p n f) ∙ (ap good_lines e ∙ lines_back q m g)

-- NO OTHER TEXT is taken: "a text is accepted only if it is exactly what the writer gives for some program".

pub whole_listed : (t : List ℕ) → whole t ≡ true → Listed t (good_lines t)
unfolding whole good_lines listing_of
whole_listed t e =
    let g = good_from 4096 0 t in
    let b = both_true (eqb (length g) 4096) (eqb (length (lines_of 0 g)) (length t)) e in
    let n = eqb-true (length (lines_of 0 g)) (length t) b.1 in
    let h : length t ≤ length (lines_of 0 g) = omega arith in
    record {
      many = eqb-true (length g) 4096 b.0;
      sized = good_sized 4096 0 t;
      is =
          begins_split (lines_of 0 g) t (good_front 4096 0 t)
          ∙ (ap (λ (l : List ℕ). lines_of 0 g ++ l) (drop_of_length-le t h) ∙ append-nil (lines_of 0 g));
    }

pub listed_whole : (t p : List ℕ) → Listed t p → whole t ≡ true
listed_whole t p l = rw l.is (whole_own p l.many l.sized)

apart : {why : Refusal} {A : Type 0} → ◌≡◌ {A = Result (Unit {0}) Refusal} (Err why) (Ok tt) → A
apart e = let z : ◌≡◌ {A = ℕ} 0 1 = cc in absurd (omega arith)

answers : {a : Result (Unit {0}) Refusal} {o : List ℕ} {r : Outcome (Result (Unit {0}) Refusal)} → r ≡ outcome a o → r.answer ≡ a
answers e = ap (λ (x : Outcome (Result (Unit {0}) Refusal)). x.answer) e

pub accepted : (t room o : List ℕ) → read_of t room ≡ outcome (Ok tt) o → Listed t (good_lines t) × (o ≡ over (good_lines t) room)
unfolding read_of stored_of
accepted t room o =
    let Says : Outcome (Result (Unit {0}) Refusal) → Type 0 = λ r. r ≡ outcome (Ok tt) o → Listed t (good_lines t) × (o ≡ over (good_lines t) room) in
    by_test Says (whole t) _ _
    (λ a. by_lt Says (length room) 4096 _ _ (λ k e. apart (answers e)) (λ k e. (whole_listed t a, sym (ap (λ (x : Outcome (Result (Unit {0}) Refusal)). x.room) e))))
    (λ a e. apart (answers e))

-- what was taken, written again, is the text
pub written_again : (t room : List ℕ) → whole t ≡ true → write_of (good_lines t) room ≡ placed_of t room
unfolding write_of
written_again t room e =
    let l = whole_listed t e in
    rw (eq-eqb (length (good_lines t)) 4096 l.many, ← l.is)

-- THE FIRST BAD LINE: the number of good lines in front, and 26 tells it.

pub first_bad : (t : List ℕ) → FirstBad t (length (good_lines t))
unfolding good_lines listing_of
first_bad t = record {
  within = good_few 4096 0 t;
  good = record { words = good_from 4096 0 t; many = refl; sized = good_sized 4096 0 t; there = good_front 4096 0 t };
  most = λ m h b.
      let p = b.words in
      let e = ap length (good_most 4096 0 p t (omega (arith, b.many)) b.sized b.there) in
      omega (arith, e, b.many, length-take (length p) (good_from 4096 0 t));
}

-- a text has one first bad line
pub first_bad_one : (t : List ℕ) (m n : ℕ) → FirstBad t m → FirstBad t n → m ≡ n
first_bad_one t m n x y = omega (arith, x.most n y.within y.good, y.most m x.within x.good)

reason_of_lem : {v w : Refusal} → ◌≡◌ {A = Result (Unit {0}) Refusal} (Err v) (Err w) → v ≡ w
reason_of_lem e = cc

line_of_lem : {m n : ℕ} → Listing m ≡ Listing n → m ≡ n
line_of_lem e = cc

other_reason : {m n : ℕ} {A : Type 0} → Room m ≡ Listing n → A
other_reason e = let z : ◌≡◌ {A = ℕ} 0 1 = cc in absurd (omega arith)

words_or_not : {v : Refusal} {A : Type 0} → ◌≡◌ {A = Result (Unit {0}) Refusal} (Ok tt) (Err v) → A
words_or_not e = apart (sym e)

-- a text that is refused by 26 is no program's listing, its line is the first bad one, and the room stays
pub refused_line : (t room o : List ℕ) (n : ℕ) → read_of t room ≡ outcome (Err (Listing n)) o → (((p : List ℕ) → Listed t p → ⊥) × FirstBad t n) × (o ≡ room)
unfolding read_of stored_of
refused_line t room o n =
    let Says : Outcome (Result (Unit {0}) Refusal) → Type 0 = λ r. r ≡ outcome (Err (Listing n)) o → (((p : List ℕ) → Listed t p → ⊥) × FirstBad t n) × (o ≡ room) in
    by_test Says (whole t) _ _
    (λ a. by_lt Says (length room) 4096 _ _ (λ k e. other_reason (reason_of_lem (answers e))) (λ k e. words_or_not (answers e)))
    (λ a e.
    let m = line_of_lem (reason_of_lem (answers e)) in
    (((λ p l. never (sym a ∙ listed_whole t p l)), rw (← m) (first_bad t)), sym (ap (λ (x : Outcome (Result (Unit {0}) Refusal)). x.room) e)))

-- HOW LONG a listing can be: 21 bytes for each line.

lines_fit : (a : ℕ) (p : List ℕ) → AllWords p → length (lines_of a p) ≤ 21 * length p
unfolding lines_of
lines_fit a [] f = omega arith
lines_fit a (w ∷ p) f =
    omega (arith, length-append (line_of a w) (lines_of (a + 1) p), line_few a w (f 0), lines_fit (a + 1) p (one_less w p f))

pub listing_fits : (p : List ℕ) → length p ≡ 4096 → AllWords p → length (listing_of p) ≤ 86016
unfolding listing_of
listing_fits p n f = omega (arith, lines_fit 0 p f)
