-- The answer of the call: the list of writers, or a refusal (01, the table: 1, 8, 7 last), and what the lent room holds after it.
use Rattle.std.specs.Prelude.{List, ℕ, ltb, eqb, length, Err, Ok, Result}
use Rattle.lent.specs.Lent.{pick, over}
use Rattle.lent.specs.Outcome.{Outcome, outcome}
use Rattle.refusal.specs.declared.Refusal.TheVariants.{ProgramLength, Room, NotAskable}
use Rattle.sh_map.specs.Map.{askable_of}
use Rattle.writers.specs.List.{writers_of}
use Rattle.refusal.specs.Told.{Counted, counted, done_told, refused_told}
use Rattle.refusal.specs.declared.Refusal.{Refusal}

-- 7, with the room needed; else the list in the room: in entries here, in bytes where addresses are written as bytes
unfoldable pub filled_of : List ℕ → List ℕ → Outcome (Result ℕ Refusal)
filled_of l o =
    pick (ltb (length o) (length l)) (outcome (Err (Room (length l))) o) (outcome (Ok (length l)) (over l o))

-- 1, then 8; a refusal leaves the room
unfoldable pub list_of : List ℕ → ℕ → List ℕ → Outcome (Result ℕ Refusal)
list_of p c o =
    pick (eqb (length p) 4096)
    (pick (askable_of c) (filled_of (writers_of p c) o) (outcome (Err (NotAskable c)) o))
    (outcome (Err (ProgramLength (length p))) o)

-- what is told of a list: its length, beside
unfoldable pub listed_told : Result ℕ Refusal → ℕ → Counted
listed_told (Ok n) count = counted done_told n
listed_told (Err why) count = counted (refused_told why) count
