-- A byte of the contents of a good book changed to any other value is refused by 10: the file's length alone tells its contents.
use Rattle.std.specs.Prelude.{Err, Ok}
use mathlib.Core.Path.{◌≡◌, ◌∙◌, ap, sym}
use mathlib.Core.Bool.{false}
use mathlib.Core.List.{List}
use Prim.Native.Nat.{ℕ, ◌<◌}
use native.Mathlib.Omega.{arith}
use lib.ListN.{length, take, set, length-set}
use lib.Seq.{get_or-take, get_or-set_same, get_or-set_other}
use lib.Dec.{eqb}
use borrow.Author.Tests.{eqb-true, eqb-false}
use Rattle.lent.specs.Lent.{at}
use Rattle.lent.proofs.Laws.{test}
use Rattle.refusal.specs.declared.Refusal.TheVariants as refusal
use Rattle.sh_rules.specs.Judge.{first_of}
use Rattle.book.specs.declared.Parts.{Parts}
use Rattle.body.specs.Body.{told}
use Rattle.book.specs.Book.{length_at, contents_fit, book_judged, reading_of, read_of}
use Rattle.book_write.specs.Writing.{contents_of, AllBytes}
use Rattle.book_write.proofs.Header.{Contents, contents_told, program_told, level_told, header_told}
use Rattle.book_write.proofs.RoundTrip.{contents_fine}

-- two files of one length whose contents are right have the same contents
same_contents : (l m : List ℕ) → AllBytes l → AllBytes m → length l ≡ length m → Contents l → Contents m → take 16 l ≡ take 16 m
same_contents l m h k e c d =
    let n : length_at l 6 ≡ length_at m 6 = omega (arith, program_told l c, level_told l c, program_told m d, level_told m d, c.ends, d.ends) in
    header_told l h c ∙ (ap (λ (w : ℕ). contents_of 8192 w 5) n ∙ sym (header_told m k d))

set_bytes : (l : List ℕ) (i v : ℕ) → AllBytes l → i < length l → v < 256 → AllBytes (set l i v)
set_bytes l i v h k b j =
    test (eqb j i)
    (λ t. let e = eqb-true j i t in rw (e, get_or-set_same l i v 0 k) b)
    (λ t. rw (get_or-set_other l i j v 0 (eqb-false j i t)) (h j))

refused_by_lem : (l : List ℕ) → contents_fit l ≡ false → read_of l ≡ Err refusal.Contents
unfolding read_of book_judged reading_of first_of told
refused_by_lem l e = rw e

-- EVERY BYTE OF THE CONTENTS, EVERY OTHER VALUE
pub damage_refused : (l : List ℕ) → AllBytes l → (ps : Parts) → read_of l ≡ Ok ps
    → (i v : ℕ) → i < 16 → v < 256 → (v ≡ at l i → ⊥) → read_of (set l i v) ≡ Err refusal.Contents
damage_refused l h ps e i v k b other =
    let c = contents_fine l ps e in
    let m : i < length l = omega (arith, c.ends) in
    test (contents_fit (set l i v))
    (λ t.
    let d = contents_told (set l i v) t in
    let s = same_contents (set l i v) l (set_bytes l i v h m b) h (length-set l i v) d c in
    absurd (other (sym (get_or-set_same l i v 0 m) ∙ (sym (get_or-take 16 (set l i v) i 0 k) ∙ (ap (λ (x : List ℕ). at x i) s ∙ get_or-take 16 l i 0 k)))))
    (refused_by_lem (set l i v))
