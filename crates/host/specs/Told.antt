-- What C is told besides: a record of another length, and what a lent room then holds.
use Rattle.std.specs.Prelude.{List, ℕ, Err, Ok, Result}
use Rattle.lent.specs.Outcome.{Outcome}
use Rattle.refusal.specs.declared.Refusal.{Refusal}
use Rattle.refusal.specs.Told.{Said, Counted, counted, done_told, refused_told}
use Rattle.sh_rules.specs.Judge.{first_of, memory_judged, judged_told}

-- a record of another length than 45 bytes is 4 (01, with the bytes that 02, P1 and P2 add), and 2 and 3 come before it
unfoldable pub short_told : List ℕ → Said
short_told memory = judged_told (first_of (memory_judged memory) (Err Refusal.Record))

-- a count or a refusal, as the list, the picture, the book and the listing tell it: `listed_told`, `drawn_told`, both `written_told`
unfoldable pub count_told : Result ℕ Refusal → ℕ → Counted
count_told (Ok n) count = counted done_told n
count_told (Err why) count = counted (refused_told why) count

-- what is said, a count, and what the lent room then holds
pub record Filled : Type 0 where
  pub counted : Counted
  pub room : List ℕ

abbrev pub filled : Counted → List ℕ → Filled
filled c o = record { counted = c; room = o }

-- an answer that tells a count, and the room that it leaves
unfoldable pub room_told : {A : Type 0} → (A → ℕ → Counted) → Outcome A → ℕ → Filled
room_told told a count = filled (told a.answer count) a.room
