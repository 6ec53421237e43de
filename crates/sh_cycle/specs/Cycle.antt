-- One cycle (01, "Events": Cycle, (a) to (e)).
use Rattle.std.specs.Prelude.{ℕ, ◌/◌, ◌%◌, Bool, true, false, List, eqb, set, Err, Ok, Result}
use Rattle.lent.specs.Lent.{pick, at}
use Rattle.word.specs.declared.Instruction.{Instruction}
use Rattle.word.specs.Word.{decode_of}
use Rattle.sh_state.specs.declared.machine.Machine.{Machine}
use Rattle.sh_state.specs.Record.{set_mode, set_pending}
use Rattle.sh_state.specs.State.{State, state}
use Rattle.sh_timers.specs.declared.request.Moved.{Moved}
use Rattle.sh_timers.specs.Request.{requested_of}
use Rattle.sh_timers.specs.Timer0.{clocked_of}
use Rattle.sh_interrupts.specs.Interrupt.{due_of, awake_of, interrupted_of}
use Rattle.sh_execute.specs.Execute.{execute_of}
use Rattle.refusal.specs.declared.Refusal.{Refusal}

-- an event's outcome: stuck before an unlisted word with nothing changed, or done
pub record Happened : Type 0 where
  pub stuck : Bool
  pub after : State

abbrev pub happened : Bool → State → Happened
happened b s = record { stuck = b; after = s }

-- a part's work on the state: its record, and the requests that it set in $001
abbrev pub moved_of : List ℕ → Moved → State
moved_of l v = state v.machine (requested_of l v.requests)

-- the read that is pending is taken out of the record; one that the instruction asks for then stays in it
unfoldable pub read_taken_of : Machine → Machine
read_taken_of m = set_pending m 0 0

-- awake: running, with the pending read taken out
unfoldable pub woken_of : Machine → Machine
woken_of m = set_mode (read_taken_of m) 0

-- a word in $01A-$01D, low nibble first (003, 11)
unfoldable pub word_in_of : List ℕ → ℕ → List ℕ
word_in_of l w =
    set (set (set (set l 0x1A (w % 16)) 0x1B (w / 16 % 16)) 0x1C (w / 256 % 16)) 0x1D (w / 4096 % 16)

-- (d) a read pending when the cycle began puts its word in $01A-$01D, over any write
unfoldable pub landed_of : List ℕ → Machine → List ℕ → List ℕ
landed_of p start l = pick (eqb start.pending 1) (word_in_of l (at p start.address)) l

-- (e) Timer0 takes one system clock, by the mode as it now stands
unfoldable pub clock_of : State → State
clock_of s = moved_of s.memory (clocked_of s.machine (at s.memory 0x02))

-- (d) and (e), after what the cycle did
unfoldable pub finished_of : List ℕ → Machine → State → State
finished_of p start s = clock_of (state s.machine (landed_of p start s.memory))

-- (c) one instruction, then (d) and (e)
unfoldable pub executed_of : List ℕ → State → Instruction → State
executed_of p s i = finished_of p s.machine (execute_of (state (woken_of s.machine) s.memory) i)

-- the word that is read; an unlisted one is not executed
unfoldable pub instructed_of : List ℕ → State → Result Instruction Refusal → Happened
instructed_of p s (Ok i) = happened false (executed_of p s i)
instructed_of p s (Err why) = happened true s

-- (b) the first interrupt that is due, then (d) and (e)
unfoldable pub interrupt_cycle_of : List ℕ → State → ℕ → State
interrupt_cycle_of p s due =
    finished_of p s.machine (interrupted_of (state (woken_of s.machine) s.memory) due)

-- awake: (b), or else (c)
unfoldable pub awake_cycle_of : List ℕ → State → ℕ → Happened
awake_cycle_of p s due =
    pick (eqb due 0) (instructed_of p s (decode_of (at p s.machine.pc))) (happened false (interrupt_cycle_of p s due))

-- asleep: HALT (1) does (d) and (e) only, STOP does nothing more
unfoldable pub asleep_cycle_of : List ℕ → State → State
asleep_cycle_of p s =
    pick (eqb s.machine.mode 1) (finished_of p s.machine (state (read_taken_of s.machine) s.memory)) s

-- (a) awake or asleep, by what is due
unfoldable pub cycle_due_of : List ℕ → State → ℕ → Happened
cycle_due_of p s due =
    pick (awake_of s.machine.mode due) (awake_cycle_of p s due) (happened false (asleep_cycle_of p s))

unfoldable pub cycle_of : List ℕ → State → Happened
cycle_of p s = cycle_due_of p s (due_of s.memory)
