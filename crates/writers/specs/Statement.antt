-- Demand 3, as it is said: when the instruction at an address of a program can leave a cell with another value.
use Rattle.std.specs.Prelude.{◌≡◌, List, ℕ, Ok}
use Rattle.lent.specs.Lent.{at}
use Rattle.word.specs.declared.Instruction.{Instruction}
use Rattle.word.specs.Word.{decode_of}
use Rattle.sh_rules.specs.Judge.{state_judged}
use Rattle.sh_state.specs.State.{State}
use Rattle.sh_interrupts.specs.Interrupt.{due_of}
use Rattle.sh_execute.specs.Execute.{execute_of}

-- "some well-formed machine, running, with no enabled interrupt requested and its counter there, has the instruction there leave the
-- cell with another value, whether or not the program ever reaches that machine"; a word that is not listed is no instruction
pub record Changes (p : List ℕ) (a c : ℕ) : Type 0 where
  pub before : State
  -- by the judgement that the calls make of what they are lent
  pub well_formed : state_judged before ≡ Ok tt
  pub running : before.machine.mode ≡ 0
  pub quiet : due_of before.memory ≡ 0
  pub there : before.machine.pc ≡ a
  pub instruction : Instruction
  pub reads : decode_of (at p a) ≡ Ok instruction
  pub differs : at (execute_of before instruction).memory c ≡ at before.memory c → ⊥
