-- What a memory and a record beside it are turned down for (01, the table: 2, 3, 4, the lowest number first).
use Rattle.std.specs.Prelude.{List, ℕ, eqb, length, Err, None, Ok, Option, Result, Some}
use Rattle.lent.specs.Lent.{pick}
use Rattle.refusal.specs.declared.Refusal.TheVariants as refusal
use Rattle.sh_rules.specs.Rules.{broken_from, well_formed_of}
use Rattle.sh_state.specs.State.{State}
use Rattle.refusal.specs.Told.{Said, done_told, refused_told}
use Rattle.refusal.specs.declared.Refusal.{Refusal}

-- 3: the lowest address whose byte breaks the memory rules
unfoldable pub cells_judged : Option ℕ → Result (Unit {0}) Refusal
cells_judged (Some a) = Err (refusal.CellRule a)
cells_judged None = Ok tt

-- 2: memory not 1,024 bytes; then 3
unfoldable pub memory_judged : List ℕ → Result (Unit {0}) Refusal
memory_judged l =
    pick (eqb (length l) 1024) (cells_judged (broken_from l 0)) (Err (refusal.MemoryLength (length l)))

-- 4: record not well formed
unfoldable pub record_judged : State → Result (Unit {0}) Refusal
record_judged s = pick (well_formed_of s) (Ok tt) (Err refusal.Record)

-- the first of two judgements that turns down
unfoldable pub first_of : Result (Unit {0}) Refusal → Result (Unit {0}) Refusal → Result (Unit {0}) Refusal
first_of (Ok tt) b = b
first_of (Err why) b = Err why

unfoldable pub state_judged : State → Result (Unit {0}) Refusal
state_judged s = first_of (memory_judged s.memory) (record_judged s)

-- what is told of a judgement
unfoldable pub judged_told : Result (Unit {0}) Refusal → Said
judged_told (Ok tt) = done_told
judged_told (Err why) = refused_told why
