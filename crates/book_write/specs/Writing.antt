-- How a panel book is written (01, "Panel book"), and what a file holds.
use Rattle.std.specs.Prelude.{ℕ, ◌+◌, ◌/◌, ◌%◌, ◌≤◌, ◌<◌, ◌≡◌, List, [], ◌∷◌, ◌++◌, ltb, length, Err, Ok, Result}
use Rattle.lent.specs.Lent.{pick, both, at, pasted_of}
use Rattle.refusal.specs.declared.Refusal.TheVariants as refusal
use Rattle.sh_rules.specs.Judge.{first_of}
use Rattle.book.specs.declared.Parts.{Parts}
use Rattle.lent.specs.Outcome.{Outcome, outcome}
use Rattle.body.specs.Body.{length_fits, told, values_judged}
use Rattle.book.specs.Book.{contents_length, read_of, body_in}
use Rattle.refusal.specs.Told.{Counted, counted, done_told, refused_told}
use Rattle.refusal.specs.declared.Refusal.{Refusal}

-- a number's two bytes, "high byte first"
abbrev pub high : ℕ → ℕ
high n = n / 256 % 256

abbrev pub low : ℕ → ℕ
low n = n % 256

abbrev pub entry_of : ℕ → ℕ → ℕ → List ℕ
entry_of kind offset n = kind ∷ high offset ∷ low offset ∷ high n ∷ low n ∷ []

-- the contents for bodies of three lengths
unfoldable pub contents_of : ℕ → ℕ → ℕ → List ℕ
contents_of program wiring level =
    3 ∷ entry_of 1 contents_length program
    ++ entry_of 2 (contents_length + program) wiring
    ++ entry_of 3 (contents_length + program + wiring) level

-- the file that holds three bodies
unfoldable pub book_of : List ℕ → List ℕ → List ℕ → List ℕ
book_of program wiring level = contents_of (length program) (length wiring) (length level) ++ program ++ wiring ++ level

-- 10 for a wrong body length, then 11 for a bad body
unfoldable pub bodies_judged : List ℕ → List ℕ → List ℕ → Result (Unit {0}) Refusal
bodies_judged program wiring level =
    first_of
    (told
    (both (length_fits 1 (length program)) (both (length_fits 2 (length wiring)) (length_fits 3 (length level))))
    refusal.Contents)
    (values_judged wiring level)

-- the lengths of good bodies, which bound the file
pub record Lengths (p w v : List ℕ) : Type 0 where
  pub program : length p ≡ 8192
  pub wiring : length w ≤ 720
  pub level : length v ≡ 5

-- bodies stored one behind the other, behind the contents
unfoldable pub bodies_put : List ℕ → List ℕ → List ℕ → List ℕ → List ℕ
bodies_put program wiring level room =
    pasted_of
    (pasted_of (pasted_of room contents_length program) (contents_length + length program) wiring)
    (contents_length + length program + length wiring)
    level

-- 7, last of all; "Bytes beyond what is written stay"
unfoldable pub put_of : List ℕ → List ℕ → Outcome (Result ℕ Refusal)
put_of book room =
    pick (ltb (length room) (length book))
    (outcome (Err (refusal.Room (length book))) room)
    (outcome (Ok (length book)) (pasted_of room 0 book))

unfoldable pub written_of : Result (Unit {0}) Refusal → List ℕ → List ℕ → Outcome (Result ℕ Refusal)
written_of (Ok tt) book room = put_of book room
written_of (Err why) book room = outcome (Err why) room

-- THE WRITER: its answer and what the room then holds
unfoldable pub write_of : List ℕ → List ℕ → List ℕ → List ℕ → Outcome (Result ℕ Refusal)
write_of program wiring level room =
    written_of (bodies_judged program wiring level) (book_of program wiring level) room

-- a file that is accepted, and its three bodies
pub record Holds (l p w v : List ℕ) : Type 0 where
  pub parts : Parts
  pub reads : read_of l ≡ Ok parts
  pub program : body_in l parts.program ≡ p
  pub wiring : body_in l parts.wiring ≡ w
  pub level : body_in l parts.level ≡ v

-- a list of bytes
abbrev pub AllBytes : List ℕ → Type 0
AllBytes l = (i : ℕ) → at l i < 256

-- what is told of a writing: how many bytes, beside
unfoldable pub written_told : Result ℕ Refusal → ℕ → Counted
written_told (Ok n) count = counted done_told n
written_told (Err why) count = counted (refused_told why) count
