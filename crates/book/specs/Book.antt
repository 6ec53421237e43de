-- A panel book as a file (01, "Panel book"): what its contents say, and what it is turned down for.
use Rattle.std.specs.Prelude.{ℕ, ◌+◌, Bool, List, eqb, length, take, drop, Err, Ok, Result}
use Rattle.lent.specs.Lent.{both, at, pair_at_of}
use Rattle.refusal.specs.declared.Refusal.TheVariants as refusal
use Rattle.sh_rules.specs.Judge.{first_of}
use Rattle.book.specs.declared.Place.{Place}
use Rattle.book.specs.declared.Parts.{Parts}
use Rattle.body.specs.Body.{length_fits, told, values_judged}
use Rattle.refusal.specs.Told.{Said, done_told, refused_told}
use Rattle.refusal.specs.declared.Refusal.{Refusal}

-- the bytes of a file from an offset on, as many as there are
unfoldable pub part_of : List ℕ → ℕ → ℕ → List ℕ
part_of l offset n = take n (drop offset l)

-- an entry at a place of the contents: "kind, offset (2 bytes), length (2)"
abbrev pub kind_at : List ℕ → ℕ → ℕ
kind_at l place = at l place

abbrev pub offset_at : List ℕ → ℕ → ℕ
offset_at l place = pair_at_of l (place + 1)

unfoldable pub length_at : List ℕ → ℕ → ℕ
length_at l place = pair_at_of l (place + 3)

-- the entry names its kind, starts its body at an offset, and gives a length that the kind takes
unfoldable pub entry_fits : List ℕ → ℕ → ℕ → ℕ → Bool
entry_fits l place kind offset =
    both (eqb (kind_at l place) kind) (both (eqb (offset_at l place) offset) (length_fits kind (length_at l place)))

-- "one byte 3, then for kinds 1, 2, 3": 1 byte and three entries of 5
abbrev pub contents_length : ℕ
contents_length = 16

abbrev pub program_entry : ℕ
program_entry = 1

abbrev pub wiring_entry : ℕ
wiring_entry = 6

abbrev pub level_entry : ℕ
level_entry = 11

abbrev pub place : ℕ → ℕ → Place
place offset n = record { offset = offset; length = n }

-- "Bodies follow in that order with no gap": each starts where the one before it ends
unfoldable pub parts_of : List ℕ → Parts
parts_of l =
    record {
      program = place contents_length (length_at l program_entry);
      wiring = place (contents_length + length_at l program_entry) (length_at l wiring_entry);
      level = place (contents_length + length_at l program_entry + length_at l wiring_entry) (length_at l level_entry);
    }

-- the contents are right, and the bodies go "to the end" of the file
unfoldable pub contents_fit : List ℕ → Bool
contents_fit l =
    both (eqb (at l 0) 3)
    (both (entry_fits l program_entry 1 (parts_of l).program.offset)
    (both (entry_fits l wiring_entry 2 (parts_of l).wiring.offset)
    (both (entry_fits l level_entry 3 (parts_of l).level.offset)
    (eqb (length l) ((parts_of l).level.offset + (parts_of l).level.length)))))

-- 10, then 11
unfoldable pub book_judged : List ℕ → Result (Unit {0}) Refusal
book_judged l =
    first_of (told (contents_fit l) refusal.Contents)
    (values_judged
    (part_of l (parts_of l).wiring.offset (parts_of l).wiring.length)
    (part_of l (parts_of l).level.offset (parts_of l).level.length))

unfoldable pub reading_of : Result (Unit {0}) Refusal → Parts → Result Parts Refusal
reading_of (Ok tt) p = Ok p
reading_of (Err why) p = Err why

-- THE READER: where each body lies, or the refusal
unfoldable pub read_of : List ℕ → Result Parts Refusal
read_of l = reading_of (book_judged l) (parts_of l)

-- a body of a file, by its place
abbrev pub body_in : List ℕ → Place → List ℕ
body_in l p = part_of l p.offset p.length

-- what is told of a reading: where the bodies lie, or what stood there
pub record Found : Type 0 where
  pub told : Said
  pub parts : Parts

abbrev pub found : Said → Parts → Found
found t p = record { told = t; parts = p }

unfoldable pub reading_told : Result Parts Refusal → Parts → Found
reading_told (Ok p) old = found done_told p
reading_told (Err why) old = found (refused_told why) old
