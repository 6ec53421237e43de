-- The contents of a file of bytes that is right are those that the writer gives, and the file's length alone tells them.
use mathlib.Core.Path.{◌≡◌, ◌∙◌, refl, ap}
use mathlib.Core.Bool.{true}
use mathlib.Core.List.{List, [], ◌∷◌}
use Prim.Native.Nat.{ℕ, zero, suc, ◌+◌, ◌*◌, ◌<◌, ◌≤◌}
use native.Mathlib.Omega.{arith}
use lib.Dec.{eqb}
use lib.ListN.{length, take, drop}
use borrow.Author.Tests.{eqb-true, eq-eqb}
use Rattle.lent.specs.Lent.{both, at, pair_at_of}
use Rattle.lent.proofs.Laws.{both_true, drop_more}
use Rattle.body.specs.Body.{length_fits}
use Rattle.book.specs.Book.{length_at, entry_fits, parts_of, contents_fit}
use Rattle.book_write.specs.Writing.{high, low, contents_of, AllBytes}
use Rattle.body.proofs.Fine.{program_length, level_length}

-- what an entry that fits says
pub record Entry (l : List ℕ) (place kind offset : ℕ) : Type 0 where
  pub names : at l place ≡ kind
  pub starts : pair_at_of l (place + 1) ≡ offset
  pub fits : length_fits kind (length_at l place) ≡ true

entry_told : (l : List ℕ) (place kind offset : ℕ) → entry_fits l place kind offset ≡ true → Entry l place kind offset
unfolding entry_fits
entry_told l place kind offset e =
    let a = both_true (eqb (at l place) kind) (both (eqb (pair_at_of l (place + 1)) offset) (length_fits kind (length_at l place))) e in
    let b = both_true (eqb (pair_at_of l (place + 1)) offset) (length_fits kind (length_at l place)) a.1 in
    record { names = eqb-true (at l place) kind a.0; starts = eqb-true (pair_at_of l (place + 1)) offset b.0; fits = b.1 }

pub entry_fits_lem : (l : List ℕ) (place kind offset : ℕ) → Entry l place kind offset → entry_fits l place kind offset ≡ true
unfolding entry_fits
entry_fits_lem l place kind offset e = rw (eq-eqb (at l place) kind e.names, eq-eqb (pair_at_of l (place + 1)) offset e.starts, e.fits)

-- what contents that are right say, and that to say it makes them right
pub record Contents (l : List ℕ) : Type 0 where
  pub counts : at l 0 ≡ 3
  pub program : Entry l 1 1 16
  pub wiring : Entry l 6 2 (16 + length_at l 1)
  pub level : Entry l 11 3 (16 + length_at l 1 + length_at l 6)
  pub ends : length l ≡ 16 + length_at l 1 + length_at l 6 + length_at l 11

pub contents_told : (l : List ℕ) → contents_fit l ≡ true → Contents l
unfolding contents_fit parts_of
contents_told l e =
    let a = both_true (eqb (at l 0) 3) _ e in
    let b = both_true (entry_fits l 1 1 16) _ a.1 in
    let c = both_true (entry_fits l 6 2 (16 + length_at l 1)) _ b.1 in
    let d = both_true (entry_fits l 11 3 (16 + length_at l 1 + length_at l 6)) _ c.1 in
    record {
      counts = eqb-true (at l 0) 3 a.0;
      program = entry_told l 1 1 16 b.0;
      wiring = entry_told l 6 2 (16 + length_at l 1) c.0;
      level = entry_told l 11 3 (16 + length_at l 1 + length_at l 6) d.0;
      ends = eqb-true (length l) (16 + length_at l 1 + length_at l 6 + length_at l 11) d.1;
    }

pub contents_right : (l : List ℕ) → Contents l → contents_fit l ≡ true
unfolding contents_fit parts_of
contents_right l c =
    rw (
      eq-eqb (at l 0) 3 c.counts,
      entry_fits_lem l 1 1 16 c.program,
      entry_fits_lem l 6 2 (16 + length_at l 1) c.wiring,
      entry_fits_lem l 11 3 (16 + length_at l 1 + length_at l 6) c.level,
      eq-eqb (length l) (16 + length_at l 1 + length_at l 6 + length_at l 11) c.ends,
    )

-- the two bytes of a number
pub pair_back : (n : ℕ) → n < 65536 → 256 * high n + low n ≡ n
pair_back n h = omega arith

pair_bytes : (a b n : ℕ) → a < 256 → b < 256 → 256 * a + b ≡ n → (a ≡ high n) × (b ≡ low n)
pair_bytes a b n h k e = (omega arith, omega arith)

pair_told : (l : List ℕ) (i n : ℕ) → AllBytes l → pair_at_of l i ≡ n → (at l i ≡ high n) × (at l (i + 1) ≡ low n)
unfolding pair_at_of
pair_told l i n h e = pair_bytes (at l i) (at l (i + 1)) n (h i) (h (i + 1)) e

-- n bytes from k on, one by one
abbrev ats : List ℕ → ℕ → ℕ → List ℕ
ats l zero k = []
ats l (suc n) k = at l k ∷ ats l n (k + 1)

front : (l : List ℕ) (n k : ℕ) → k + n ≤ length l → take n (drop k l) ≡ ats l n k
front l zero k h = refl
front l (suc n) k h = rw (drop_more l k (omega arith)) (ap (λ (t : List ℕ). at l k ∷ t) (front l n (k + 1) (omega arith)))

module _ (l : List ℕ) (c : Contents l) where
  pub program_told : length_at l 1 ≡ 8192
  program_told = program_length (length_at l 1) c.program.fits

  pub level_told : length_at l 11 ≡ 5
  level_told = level_length (length_at l 11) c.level.fits

-- the sixteen bytes of the contents
pub header_told : (l : List ℕ) → AllBytes l → (c : Contents l) → take 16 l ≡ contents_of 8192 (length_at l 6) 5
unfolding contents_of length_at
header_told l h c =
    let p = program_told l c in
    let v = level_told l c in
    let a = pair_told l 2 16 h c.program.starts in
    let b = pair_told l 4 8192 h p in
    let d = pair_told l 7 (16 + length_at l 1) h c.wiring.starts in
    let e = pair_told l 9 (length_at l 6) h refl in
    let f = pair_told l 12 (16 + length_at l 1 + length_at l 6) h c.level.starts in
    let g = pair_told l 14 5 h v in
    let n = c.counts in
    let x = c.program.names in
    let y = c.wiring.names in
    let z = c.level.names in
    front l 16 0 (omega (arith, c.ends)) ∙ cc
