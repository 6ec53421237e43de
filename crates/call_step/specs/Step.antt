-- The call step: 1, 2, 3, 4, 5, 6 in order; else the event (01, the table and "Events").
use Rattle.std.specs.Prelude.{ℕ, List, eqb, length, Err, Ok, Result}
use Rattle.lent.specs.Lent.{pick}
use Rattle.refusal.specs.declared.Refusal.TheVariants.{ProgramLength, UnknownEvent, UnlistedWord}
use Rattle.sh_state.specs.State.{State}
use Rattle.sh_rules.specs.Judge.{state_judged}
use Rattle.sh_cycle.specs.Cycle.{Happened}
use Rattle.sh_events.specs.Event.{event_of}
use Rattle.sh_known.specs.Known.{known_of}
use Rattle.answer.specs.Answer.{Answered, answered, refused}
use Rattle.refusal.specs.declared.Refusal.{Refusal}

-- 6: a cycle would execute an unlisted word
unfoldable pub told_of : Happened → Answered
told_of h = pick h.stuck (refused (UnlistedWord h.after.machine.pc) h.after) (answered (Ok tt) h.after)

-- 5: unknown event; in a step its place is 0
unfoldable pub stepped_of : List ℕ → State → ℕ → Answered
stepped_of p s e = pick (known_of e) (told_of (event_of p s e)) (refused (UnknownEvent 0) s)

-- 2, 3, 4: the memory, its cells, the record
unfoldable pub step_judged_of : List ℕ → State → ℕ → Result (Unit {0}) Refusal → Answered
step_judged_of p s e (Ok tt) = stepped_of p s e
step_judged_of p s e (Err why) = refused why s

-- 1: program not 4,096 words
unfoldable pub step_of : List ℕ → State → ℕ → Answered
step_of p s e =
    pick (eqb (length p) 4096) (step_judged_of p s e (state_judged s)) (refused (ProgramLength (length p)) s)
