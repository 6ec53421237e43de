-- A step by one program is a step by another of the same length that has the same words where the machine reads: at its counter, and
-- at the address of a read that is pending.
use Rattle.std.specs.Prelude.{Err, Ok, Result}
use mathlib.Core.Path.{◌≡◌, refl, ap}
use mathlib.Core.List.{List}
use Prim.Native.Nat.{ℕ}
use lib.ListN.{length}
use Rattle.lent.specs.Lent.{at}
use Rattle.word.specs.Word.{decode_of}
use Rattle.sh_state.specs.State.{State, state}
use Rattle.sh_rules.specs.Judge.{state_judged}
use Rattle.sh_cycle.specs.Cycle.{happened, landed_of, finished_of, clock_of, executed_of, instructed_of, interrupt_cycle_of, awake_cycle_of, asleep_cycle_of, cycle_due_of, cycle_of}
use Rattle.sh_events.specs.Event.{event_of}
use Rattle.call_step.specs.Step.{stepped_of, step_judged_of, step_of}
use Rattle.refusal.specs.declared.Refusal.{Refusal}
use Rattle.word.specs.declared.Instruction.{Instruction}

module _ (p q : List ℕ) (s : State) (read : at p s.machine.address ≡ at q s.machine.address) where
  landed_same : (l : List ℕ) → landed_of p s.machine l ≡ landed_of q s.machine l
  unfolding landed_of
  landed_same l = rw read

  finished_same : (t : State) → finished_of p s.machine t ≡ finished_of q s.machine t
  unfolding finished_of
  finished_same t = ap (λ (l : List ℕ). clock_of (state t.machine l)) (landed_same t.memory)

  instructed_same : (d : Result Instruction Refusal) → instructed_of p s d ≡ instructed_of q s d
  unfolding instructed_of executed_of
  instructed_same (Ok i) = ap (happened _) (finished_same _)
  instructed_same (Err why) = refl

  interrupt_same : (due : ℕ) → interrupt_cycle_of p s due ≡ interrupt_cycle_of q s due
  unfolding interrupt_cycle_of
  interrupt_same due = finished_same _

  asleep_same : asleep_cycle_of p s ≡ asleep_cycle_of q s
  unfolding asleep_cycle_of
  asleep_same = rw (finished_same)

  module _ (next : at p s.machine.pc ≡ at q s.machine.pc) where
    awake_same : (due : ℕ) → awake_cycle_of p s due ≡ awake_cycle_of q s due
    unfolding awake_cycle_of
    awake_same due = rw (next, instructed_same (decode_of (at q s.machine.pc)), interrupt_same due)

    event_same : (e : ℕ) → event_of p s e ≡ event_of q s e
    unfolding event_of cycle_of cycle_due_of
    event_same e = rw (awake_same, asleep_same)

    judged_same : (e : ℕ) (j : Result (Unit {0}) Refusal) → step_judged_of p s e j ≡ step_judged_of q s e j
    unfolding step_judged_of stepped_of
    judged_same e (Ok tt) = rw (event_same e)
    judged_same e (Err why) = refl

    pub step_same : (e : ℕ) → length p ≡ length q → step_of p s e ≡ step_of q s e
    unfolding step_of
    step_same e h = rw (h, judged_same e (state_judged s))
