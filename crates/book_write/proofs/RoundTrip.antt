-- Nothing is lost either way: what is written reads back as the same three bodies, and a file that is accepted is what the writer gives for its bodies.
use Rattle.std.specs.Prelude.{Err, Ok, Result}
use mathlib.Core.Path.{◌≡◌, ◌∙◌, refl, ap, sym}
use mathlib.Core.Bool.{Bool, true, false}
use mathlib.Core.List.{List, ◌++◌, append_assoc}
use Prim.Native.Nat.{ℕ, ◌+◌, ◌≤◌}
use native.Mathlib.Omega.{arith}
use lib.Dec.{ltb}
use lib.ListN.{length, take, drop, length-append, length-drop}
use lib.Seq.{take-add, take-length, length-take-le, take-append_seam, take_at, drop_at}
use borrow.Author.Tests.{ltb-false}
use Rattle.lent.specs.Lent.{at, pick, pair_at_of, pasted_of}
use Rattle.lent.proofs.Laws.{pasted_front}
use Rattle.refusal.specs.declared.Refusal.TheVariants as refusal
use Rattle.sh_rules.specs.Judge.{first_of}
use Rattle.book.specs.declared.Parts.{Parts}
use Rattle.lent.specs.Outcome.{outcome}
use Rattle.body.specs.Body.{told, values_judged}
use Rattle.book.specs.Book.{place, part_of, length_at, parts_of, book_judged, reading_of, read_of, body_in}
use Rattle.book_write.specs.Writing.{contents_of, book_of, bodies_judged, put_of, written_of, write_of, Holds, AllBytes}
use Rattle.sh_rules.proofs.Laws.{first_fine}
use Rattle.body.proofs.Fine.{told_fine}
use Rattle.book_write.proofs.Fine.{fine_fits, fine_values, fine_lengths}
use Rattle.book_write.proofs.Puts.{contents_length_lem, book_length, put_fits}
use Rattle.book_write.proofs.Header.{Entry, Contents, contents_told, contents_right, pair_back, program_told, level_told, header_told}
use Rattle.refusal.specs.declared.Refusal.{Refusal}

-- ---- what is written reads back

-- three lists in a row behind a fourth, taken out again
module _ (h p w v : List ℕ) (n : ℕ) (e : length h ≡ n) where
  part_first : part_of (h ++ p ++ w ++ v) n (length p) ≡ p
  unfolding part_of
  part_first =
      ap (λ (l : List ℕ). take (length p) (drop n l)) (append_assoc (h ++ p) w v ∙ append_assoc h p (w ++ v))
      ∙ (ap (take (length p)) (drop_at h (p ++ (w ++ v)) n e) ∙ take-append_seam p (w ++ v))

  part_second : part_of (h ++ p ++ w ++ v) (n + length p) (length w) ≡ w
  unfolding part_of
  part_second =
      ap (λ (l : List ℕ). take (length w) (drop (n + length p) l)) (append_assoc (h ++ p) w v)
      ∙ (ap (take (length w)) (drop_at (h ++ p) (w ++ v) (n + length p) (omega (arith, length-append h p))) ∙ take-append_seam w v)

  part_third : part_of (h ++ p ++ w ++ v) (n + length p + length w) (length v) ≡ v
  unfolding part_of
  part_third =
      ap (take (length v)) (drop_at (h ++ p ++ w) v (n + length p + length w) (omega (arith, length-append h p, length-append (h ++ p) w)))
      ∙ take-length v

module _ (p w v : List ℕ) (e : bodies_judged p w v ≡ Ok tt) where
  book_program : length_at (book_of p w v) 1 ≡ length p
  unfolding book_of contents_of length_at pair_at_of
  book_program = pair_back (length p) (omega (arith, (fine_lengths p w v e).program))

  book_wiring : length_at (book_of p w v) 6 ≡ length w
  unfolding book_of contents_of length_at pair_at_of
  book_wiring = pair_back (length w) (omega (arith, (fine_lengths p w v e).wiring))

  book_level : length_at (book_of p w v) 11 ≡ length v
  unfolding book_of contents_of length_at pair_at_of
  book_level = pair_back (length v) (omega (arith, (fine_lengths p w v e).level))

  program_entry_lem : Entry (book_of p w v) 1 1 16
  unfolding book_of contents_of pair_at_of
  program_entry_lem = record { names = refl; starts = refl; fits = rw book_program (fine_fits p w v e).0 }

  wiring_entry_lem : Entry (book_of p w v) 6 2 (16 + length p)
  unfolding book_of contents_of pair_at_of
  wiring_entry_lem =
      record { names = refl; starts = pair_back (16 + length p) (omega (arith, (fine_lengths p w v e).program)); fits = rw book_wiring (fine_fits p w v e).1.0 }

  level_entry_lem : Entry (book_of p w v) 11 3 (16 + length p + length w)
  unfolding book_of contents_of pair_at_of
  level_entry_lem =
      let b = fine_lengths p w v e in
      record { names = refl; starts = pair_back (16 + length p + length w) (omega (arith, b.program, b.wiring)); fits = rw book_level (fine_fits p w v e).1.1 }

  book_counts : at (book_of p w v) 0 ≡ 3
  unfolding book_of contents_of
  book_counts = refl

  book_contents : Contents (book_of p w v)
  book_contents =
      record {
        counts = book_counts;
        program = program_entry_lem;
        wiring = rw book_program wiring_entry_lem;
        level = rw (book_program, book_wiring) level_entry_lem;
        ends = rw (book_program, book_wiring, book_level) (book_length p w v);
      }

  -- where the three bodies lie
  placed : Parts
  placed = record { program = place 16 (length p); wiring = place (16 + length p) (length w); level = place (16 + length p + length w) (length v) }

  book_parts : parts_of (book_of p w v) ≡ placed
  unfolding parts_of placed
  book_parts = rw (book_program, book_wiring, book_level)

  book_first : part_of (book_of p w v) 16 (length p) ≡ p
  unfolding book_of
  book_first = part_first (contents_of (length p) (length w) (length v)) p w v 16 (contents_length_lem (length p) (length w) (length v))

  book_second : part_of (book_of p w v) (16 + length p) (length w) ≡ w
  unfolding book_of
  book_second = part_second (contents_of (length p) (length w) (length v)) p w v 16 (contents_length_lem (length p) (length w) (length v))

  book_third : part_of (book_of p w v) (16 + length p + length w) (length v) ≡ v
  unfolding book_of
  book_third = part_third (contents_of (length p) (length w) (length v)) p w v 16 (contents_length_lem (length p) (length w) (length v))

  book_fine : book_judged (book_of p w v) ≡ Ok tt
  unfolding book_judged placed first_of told
  book_fine = rw (contents_right (book_of p w v) book_contents, book_parts, book_second, book_third) (fine_values p w v e)

  pub book_holds : Holds (book_of p w v) p w v
  unfolding read_of reading_of placed
  book_holds = record { parts = placed; reads = rw (book_fine, book_parts); program = book_first; wiring = book_second; level = book_third }

-- a judgement that writes is fine, and the room then starts with the book
written_fine : (j : Result (Unit {0}) Refusal) (b r : List ℕ) (n : ℕ) → (written_of j b r).answer ≡ Ok n → (j ≡ Ok tt) × (take n (written_of j b r).room ≡ b)
unfolding written_of put_of
written_fine (Ok tt) b r n e = (refl, go (ltb (length r) (length b)) refl e)
  where
    go : (t : Bool) → ltb (length r) (length b) ≡ t
        → (pick t (outcome (Err (refusal.Room (length b))) r) (outcome (Ok (length b)) (pasted_of r 0 b))).answer ≡ Ok n
        → take n (pick t (outcome (Err (refusal.Room (length b))) r) (outcome (Ok (length b)) (pasted_of r 0 b))).room ≡ b
    go true h f = cc
    go false h f =
        let m : length b ≡ n = cc in
        ap (take n) (pasted_front r b (ltb-false (length r) (length b) h)) ∙ take_at b (drop (length b) r) n m
written_fine (Err why) b r n e = (cc, cc)

-- WHAT IS WRITTEN READS BACK: the bytes that the writer counts hold the same three bodies
pub read_written : (p w v room : List ℕ) (n : ℕ) → (write_of p w v room).answer ≡ Ok n → Holds (take n (write_of p w v room).room) p w v
unfolding write_of
read_written p w v room n e =
    let f = written_fine (bodies_judged p w v) (book_of p w v) room n e in
    rw f.1 (book_holds p w v f.0)

-- ---- what is accepted is what the writer gives

reading_fine : (j : Result (Unit {0}) Refusal) (q ps : Parts) → reading_of j q ≡ Ok ps → (j ≡ Ok tt) × (q ≡ ps)
unfolding reading_of
reading_fine (Ok tt) q ps e = (refl, cc)
reading_fine (Err why) q ps e = (cc, cc)

-- the three bodies by the lengths that the contents give
abbrev first : List ℕ → List ℕ
first l = part_of l 16 (length_at l 1)

abbrev second : List ℕ → List ℕ
second l = part_of l (16 + length_at l 1) (length_at l 6)

abbrev third : List ℕ → List ℕ
third l = part_of l (16 + length_at l 1 + length_at l 6) (length_at l 11)

module _ (l : List ℕ) (ps : Parts) (e : read_of l ≡ Ok ps) where
  accepted : (book_judged l ≡ Ok tt) × (parts_of l ≡ ps)
  unfolding read_of
  accepted = reading_fine (book_judged l) (parts_of l) ps e

  pub contents_fine : Contents l
  unfolding book_judged
  contents_fine = contents_told l (told_fine _ _ (first_fine _ _ accepted.0).0)

  values_fine : values_judged (second l) (third l) ≡ Ok tt
  unfolding book_judged parts_of
  values_fine = (first_fine _ _ accepted.0).1

  part_length : (offset n : ℕ) → offset + n ≤ length l → length (part_of l offset n) ≡ n
  unfolding part_of
  part_length offset n k = length-take-le n (drop offset l) (omega (arith, length-drop offset l))

  first_length : length (first l) ≡ length_at l 1
  first_length = part_length 16 (length_at l 1) (omega (arith, contents_fine.ends))

  second_length : length (second l) ≡ length_at l 6
  second_length = part_length (16 + length_at l 1) (length_at l 6) (omega (arith, contents_fine.ends))

  third_length : length (third l) ≡ length_at l 11
  third_length = part_length (16 + length_at l 1 + length_at l 6) (length_at l 11) (omega (arith, contents_fine.ends))

  -- the contents and the three parts in a row are the file
  in_row : (a b c : ℕ) → length l ≡ 16 + a + b + c → take 16 l ++ part_of l 16 a ++ part_of l (16 + a) b ++ part_of l (16 + a + b) c ≡ l
  unfolding part_of
  in_row a b c k = rw (← take-add 16 a l, ← take-add (16 + a) b l, ← take-add (16 + a + b) c l, ← k) (take-length l)

  header : AllBytes l → contents_of (length (first l)) (length (second l)) (length (third l)) ≡ take 16 l
  header h =
      rw (first_length, second_length, third_length, program_told l contents_fine, level_told l contents_fine) (sym (header_told l h contents_fine))

  book_again : AllBytes l → book_of (first l) (second l) (third l) ≡ l
  unfolding book_of
  book_again h =
      ap (λ (t : List ℕ). t ++ first l ++ second l ++ third l) (header h)
      ∙ in_row (length_at l 1) (length_at l 6) (length_at l 11) contents_fine.ends

  bodies_again : bodies_judged (first l) (second l) (third l) ≡ Ok tt
  unfolding bodies_judged first_of told
  bodies_again =
      rw (first_length, second_length, third_length, contents_fine.program.fits, contents_fine.wiring.fits, contents_fine.level.fits) values_fine

  -- a file that is accepted is the book of its three bodies, which are good
  pub book_of_parts : AllBytes l → book_of (body_in l ps.program) (body_in l ps.wiring) (body_in l ps.level) ≡ l
  unfolding parts_of
  book_of_parts h = rw (← accepted.1) (book_again h)

  parts_fine : bodies_judged (body_in l ps.program) (body_in l ps.wiring) (body_in l ps.level) ≡ Ok tt
  unfolding parts_of
  parts_fine = rw (← accepted.1) bodies_again

  -- WHAT IS ACCEPTED IS WHAT THE WRITER GIVES for its bodies
  pub written_read : AllBytes l → (room : List ℕ) → length l ≤ length room
      → write_of (body_in l ps.program) (body_in l ps.wiring) (body_in l ps.level) room ≡ outcome (Ok (length l)) (pasted_of room 0 l)
  unfolding write_of written_of
  written_read h room k = rw (parts_fine, book_of_parts h) (sym (put_fits l room (length l) refl (pasted_of room 0 l) k refl))

-- NO TWO FILES HOLD THE SAME PARTS
pub one_file : (l m p w v : List ℕ) → AllBytes l → AllBytes m → Holds l p w v → Holds m p w v → l ≡ m
one_file l m p w v h k x y =
    sym (book_of_parts l x.parts x.reads h)
    ∙ (rw (x.program, x.wiring, x.level, ← y.program, ← y.wiring, ← y.level) (book_of_parts m y.parts y.reads k))
