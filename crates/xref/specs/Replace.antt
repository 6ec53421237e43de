-- Building the tables of a program, and replacing one of its words (02, P7).
use Rattle.std.specs.Prelude.{List, ℕ, ◌*◌, ltb, eqb, length, Err, Ok, Result}
use Rattle.lent.specs.Lent.{pick, pair_set_of}
use Rattle.lent.specs.Outcome as lent
use Rattle.refusal.specs.declared.Refusal.TheVariants.{ProgramLength, Room, Field, Tables}
use Rattle.wire.specs.Words.{words_of}
use Rattle.tables.specs.Tables.{built_of, matches_of}
use Rattle.refusal.specs.declared.Refusal.{Refusal}

-- 1, told in bytes; 7, with 5,120 numbers; else the tables
unfoldable pub build_of : List ℕ → List ℕ → lent.Outcome (Result (Unit {0}) Refusal)
build_of body t =
    pick (eqb (length body) 8192)
    (pick (ltb (length t) 5120) (lent.outcome (Err (Room 5120)) t) (lent.outcome (Ok tt) (built_of (words_of body 4096) t)))
    (lent.outcome (Err (ProgramLength (length body))) t)

-- an answer, with what the lent program and the lent tables then hold
pub record Replaced : Type 0 where
  pub answer : Result (Unit {0}) Refusal
  pub program : List ℕ
  pub tables : List ℕ

abbrev pub replaced : Result (Unit {0}) Refusal → List ℕ → List ℕ → Replaced
replaced o body t = record { answer = o; program = body; tables = t }

-- the word written, and the tables that a fresh build of the new program gives
unfoldable pub word_replaced : List ℕ → List ℕ → ℕ → ℕ → Replaced
word_replaced body t a w = replaced (Ok tt) (pair_set_of body (a * 2) w) (built_of (words_of (pair_set_of body (a * 2) w) 4096) t)

-- 29, if the tables are not those of the program before
unfoldable pub changed_of : List ℕ → List ℕ → ℕ → ℕ → Replaced
changed_of body t a w = pick (matches_of (words_of body 4096) t) (word_replaced body t a w) (replaced (Err Tables) body t)

-- 1, told in bytes; 13, "also for replacing at an address above 4,095"; then 29; a refusal moves neither
unfoldable pub replace_of : List ℕ → List ℕ → ℕ → ℕ → Replaced
replace_of body t a w =
    pick (eqb (length body) 8192)
    (pick (ltb a 4096) (changed_of body t a w) (replaced (Err Field) body t))
    (replaced (Err (ProgramLength (length body))) body t)
