-- Where a cell's value comes from: from an instruction at an address in the cell's list of writers.
use Rattle.std.specs.Prelude.{◌≡◌, List, [], ◌∷◌, ℕ, ◌<◌, length, take, Ok}
use Rattle.lent.specs.Lent.{at}
use Rattle.word.specs.declared.Instruction.{Instruction}
use Rattle.word.specs.Word.{decode_of}
use Rattle.sh_state.specs.State.{State}
use Rattle.sh_interrupts.specs.Interrupt.{due_of}
use Rattle.sh_execute.specs.Execute.{execute_of}
use Rattle.sh_events.specs.Event.{event_of}
use Rattle.sh_run.specs.Run.{run_of}
use Rattle.writers.specs.List.{writers_of, Has}

-- the state after events, one after the other
unfoldable pub after_of : List ℕ → List ℕ → State → State
after_of p [] s = s
after_of p (e ∷ events) s = after_of p events (event_of p s e).after

-- a cycle of this state executes the instruction at its counter, which is one of the cell's writers and leaves the cell with v,
-- another value than it had
pub record Wrote (p : List ℕ) (s : State) (c v : ℕ) : Type 0 where
  pub running : s.machine.mode ≡ 0
  -- no interrupt to take instead
  pub quiet : due_of s.memory ≡ 0
  pub listed : Has s.machine.pc (writers_of p c)
  pub instruction : Instruction
  pub reads : decode_of (at p s.machine.pc) ≡ Ok instruction
  pub leaves : at (execute_of s instruction).memory c ≡ v
  pub another : v ≡ at s.memory c → ⊥

-- the place in a run's script of a cycle that was done and wrote the value that the run leaves in the cell
pub record Origin (p : List ℕ) (target : ℕ) (script : List ℕ) (s : State) (c : ℕ) : Type 0 where
  pub place : ℕ
  pub inside : place < length script
  pub done : place < (run_of p target script s 0).events
  pub cycle : at script place ≡ 0x00
  pub wrote : Wrote p (after_of p (take place script) s) c (at (run_of p target script s 0).after.memory c)
