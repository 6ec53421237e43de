-- The call fresh: 2, then 12; else a fresh machine, and its memory in the lent one (01, "Reset").
use Rattle.std.specs.Prelude.{ℕ, List, ltb, eqb, length, replicate, Ok}
use Rattle.lent.specs.Lent.{pick}
use Rattle.refusal.specs.declared.Refusal.TheVariants.{MemoryLength, Options}
use Rattle.sh_state.specs.Record.{fresh_of}
use Rattle.sh_state.specs.State.{state}
use Rattle.sh_reset.specs.declared.reset.Column.TheVariants.{Pin}
use Rattle.sh_reset.specs.Reset.{reset_memory_of}
use Rattle.answer.specs.Answer.{Answered, answered, refused}

-- all cells 0, then the pin reset
unfoldable pub fresh_memory_of : ℕ → List ℕ → List ℕ
fresh_memory_of options l = reset_memory_of Pin options (replicate (length l) 0)

-- a refusal has no machine to tell: it hands back that of options 0, and the memory as it came
unfoldable pub fresh_call_of : ℕ → List ℕ → Answered
fresh_call_of options l =
    pick (eqb (length l) 1024)
    (pick (ltb options 8)
    (answered (Ok tt) (state (fresh_of options) (fresh_memory_of options l)))
    (refused (Options options) (state (fresh_of 0) l)))
    (refused (MemoryLength (length l)) (state (fresh_of 0) l))
