-- "A refusal changes no lent byte" (01, the table): a step that is refused leaves the state.
use Rattle.std.specs.Prelude.{Err, Ok, Result}
use mathlib.Core.Path.{◌≡◌, refl}
use mathlib.Core.List.{List}
use Prim.Native.Nat.{ℕ}
use lib.Dec.{eqb}
use lib.ListN.{length}
use Rattle.lent.proofs.Laws.{by_test, by_choice}
use Rattle.refusal.specs.declared.Refusal.{Refusal}
use Rattle.sh_rules.specs.Judge.{state_judged}
use Rattle.sh_state.specs.State.{State}
use Rattle.sh_cycle.specs.Cycle.{Happened}
use Rattle.sh_cycle.proofs.Stuck.{Stuck}
use Rattle.sh_known.specs.Known.{known_of}
use Rattle.sh_events.specs.Event.{event_of}
use Rattle.sh_events.proofs.Stuck.{event_stuck}
use Rattle.answer.specs.Answer.{Answered}
use Rattle.call_step.specs.Step.{told_of, stepped_of, step_judged_of, step_of}

-- an answer that refuses leaves the state
abbrev Leaves : State → Answered → Type 0
Leaves s a = (why : Refusal) → a.outcome ≡ Err why → a.after ≡ s

told_leaves : (s : State) (h : Happened) → Stuck s h → Leaves s (told_of h)
unfolding told_of
told_leaves s h k = by_test (Leaves s) h.stuck _ _ (λ e why f. k e) (λ e why f. cc)

judged_leaves : (p : List ℕ) (s : State) (e : ℕ) (j : Result (Unit {0}) Refusal) → Leaves s (step_judged_of p s e j)
unfolding step_judged_of stepped_of
judged_leaves p s e (Ok tt) =
    by_choice (Leaves s) (known_of e) _ _ (told_leaves s (event_of p s e) (event_stuck p s e)) (λ why f. refl)
judged_leaves p s e (Err why) = λ r f. refl

pub step_leaves : (p : List ℕ) (s : State) (e : ℕ) (why : Refusal) → (step_of p s e).outcome ≡ Err why → (step_of p s e).after ≡ s
unfolding step_of
step_leaves p s e =
    by_choice (Leaves s) (eqb (length p) 4096) _ _ (judged_leaves p s e (state_judged s)) (λ why f. refl)
