-- list, for C: the exact list as bytes, or a refusal: 1, 8, 7 last (01, the table), lengths and room in bytes (01, "What is lent").
use Rattle.std.specs.Prelude.{ℕ, List, eqb, length, Err, Result}
use Rattle.lent.specs.Lent.{pick}
use Rattle.lent.specs.Outcome.{Outcome, outcome}
use Rattle.refusal.specs.declared.Refusal.TheVariants.{ProgramLength, NotAskable}
use Rattle.sh_map.specs.Map.{askable_of}
use Rattle.writers.specs.List.{writers_of}
use Rattle.writers.specs.Answer.{filled_of, listed_told}
use Rattle.wire.specs.Words.{words_of, pairs_of}
use Rattle.host.specs.Told.{Filled, room_told}
use Rattle.refusal.specs.declared.Refusal.{Refusal}

-- 8; else the list, two bytes for each address, or 7 with the bytes needed
unfoldable pub asked_of : List ℕ → ℕ → List ℕ → Outcome (Result ℕ Refusal)
asked_of p cell room =
    pick (askable_of cell)
    (filled_of (pairs_of (writers_of p cell) (length (writers_of p cell))) room)
    (outcome (Err (NotAskable cell)) room)

-- "another length is 1, told in bytes"
unfoldable pub host_list_of : List ℕ → ℕ → List ℕ → ℕ → Filled
host_list_of body cell room count =
    pick (eqb (length body) 8192)
    (room_told listed_told (asked_of (words_of body 4096) cell room) count)
    (room_told listed_told (outcome (Err (ProgramLength (length body))) room) count)
