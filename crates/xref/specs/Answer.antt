-- The answer for one cell (02, P7): its own writers joined with those through $00F, ascending, each once.
use Rattle.std.specs.Prelude.{true, List, [], ◌∷◌, ℕ, ◌+◌, ltb, eqb, length, Err, Result}
use Rattle.lent.specs.Lent.{pick}
use Rattle.lent.specs.Outcome.{Outcome, outcome}
use Rattle.refusal.specs.declared.Refusal.TheVariants.{ProgramLength, NotAskable, Tables}
use Rattle.sh_map.specs.Map.{askable_of}
use Rattle.wire.specs.Words.{words_of, pairs_of}
use Rattle.writers.specs.Answer.{filled_of}
use Rattle.tables.specs.Key.{under}
use Rattle.tables.specs.Tables.{matches_of}
use Rattle.refusal.specs.declared.Refusal.{Refusal}

-- the addresses kept under a cell or under $00F, of words of which the first stands at a
unfoldable pub joined_from : ℕ → List ℕ → ℕ → List ℕ
joined_from c [] a = []
joined_from c (w ∷ p) a = pick (pick (under w c) true (under w 0x0F)) (a ∷ joined_from c p (a + 1)) (joined_from c p (a + 1))

unfoldable pub joined_of : List ℕ → ℕ → List ℕ
joined_of p c = joined_from c p 0

-- 29; else the addresses, two bytes each, or 7 with the bytes needed
unfoldable pub answered_of : List ℕ → List ℕ → ℕ → List ℕ → Outcome (Result ℕ Refusal)
answered_of p t c room =
    pick (matches_of p t) (filled_of (pairs_of (joined_of p c) (length (joined_of p c))) room) (outcome (Err Tables) room)

-- "another length is 1, told in bytes"; then 8
unfoldable pub list_of : List ℕ → List ℕ → ℕ → List ℕ → Outcome (Result ℕ Refusal)
list_of body t c room =
    pick (eqb (length body) 8192)
    (pick (askable_of c) (answered_of (words_of body 4096) t c room) (outcome (Err (NotAskable c)) room))
    (outcome (Err (ProgramLength (length body))) room)
