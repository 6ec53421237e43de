-- step, for C: the program as a kind 1 body, the record as 45 bytes (01, "What is lent"; 02, P1 and P2).
use Rattle.std.specs.Prelude.{ℕ, List, eqb, length}
use Rattle.lent.specs.Lent.{pick}
use Rattle.refusal.specs.declared.Refusal.TheVariants.{ProgramLength}
use Rattle.sh_state.specs.State.{state}
use Rattle.refusal.specs.Told.{Said, refused_told}
use Rattle.answer.specs.Answer.{Answered, outcome_told}
use Rattle.call_step.specs.Step.{step_of}
use Rattle.wire.specs.Record.{record_of, bytes_of}
use Rattle.wire.specs.Words.{words_of}
use Rattle.host.specs.Told.{short_told}

-- what is said, and what the lent memory and record then hold
pub record Stepped : Type 0 where
  pub told : Said
  pub memory : List ℕ
  pub bytes : List ℕ

abbrev pub stepped : Said → List ℕ → List ℕ → Stepped
stepped t l b = record { told = t; memory = l; bytes = b }

unfoldable pub step_told : Answered → Stepped
step_told a = stepped (outcome_told a.outcome) a.after.memory (bytes_of a.after.machine)

-- "another length is 1, told in bytes"
unfoldable pub host_step_of : List ℕ → List ℕ → List ℕ → ℕ → Stepped
host_step_of body l b e =
    pick (eqb (length body) 8192)
    (pick (eqb (length b) 45)
    (step_told (step_of (words_of body 4096) (state (record_of b) l) e))
    (stepped (short_told l) l b))
    (stepped (refused_told (ProgramLength (length body))) l b)
