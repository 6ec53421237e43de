-- The same of the calls step and run, whatever they are given: a call that refuses leaves every cell.
use Rattle.std.specs.Prelude.{Err, None, Ok, Option, Result, Some}
use mathlib.Core.Path.{◌≡◌, refl}
use mathlib.Core.Bool.{true}
use mathlib.Core.List.{List}
use Prim.Native.Nat.{ℕ}
use lib.ListN.{length}
use Rattle.lent.specs.Lent.{at}
use Rattle.lent.proofs.Laws.{by_choice, by_eq}
use Rattle.sh_map.specs.Map.{askable_of}
use Rattle.sh_state.specs.State.{State}
use Rattle.sh_rules.specs.Judge.{state_judged}
use Rattle.sh_known.specs.Known.{known_of}
use Rattle.sh_events.specs.Event.{event_of}
use Rattle.sh_run.specs.Run.{run_of}
use Rattle.answer.specs.Answer.{Answered}
use Rattle.call_step.specs.Step.{told_of, stepped_of, step_judged_of, step_of}
use Rattle.call_run.specs.Run.{RunAnswered, unknown_from, run_told_of, run_found_of, run_judged_of, run_call_of}
use Rattle.origins.specs.Origin.{Wrote, Origin}
use Rattle.origins.proofs.Leaves.{Same}
use Rattle.origins.proofs.Event.{event_wrote}
use Rattle.origins.proofs.Run.{no_digit_from_elsewhere}
use Rattle.refusal.specs.declared.Refusal.{Refusal}

module _ (p : List ℕ) (s : State) (e c : ℕ) (h : askable_of c ≡ true) where
  -- a step that changed the cell was a cycle that wrote it
  abbrev Stepped : Answered → Type 0
  Stepped a = (Same c s a.after → ⊥) → (e ≡ 0x00) × Wrote p s c (at a.after.memory c)

  judged_step : length p ≡ 4096 → (j : Result (Unit {0}) Refusal) → state_judged s ≡ j → Stepped (step_judged_of p s e j)
  unfolding step_judged_of stepped_of told_of
  judged_step size (Ok tt) f =
      let wrote = event_wrote p size c h s e f in
      by_choice Stepped (known_of e) _ _ (by_choice Stepped (event_of p s e).stuck _ _ wrote wrote) (λ d. absurd (d refl))
  judged_step size (Err why) f = λ d. absurd (d refl)

  pub step_digit : (at (step_of p s e).after.memory c ≡ at s.memory c → ⊥) → (e ≡ 0x00) × Wrote p s c (at (step_of p s e).after.memory c)
  unfolding step_of
  step_digit = by_eq Stepped (length p) 4096 _ _ (λ size. judged_step size (state_judged s) refl) (λ n d. absurd (d refl))

module _ (p : List ℕ) (s : State) (script : List ℕ) (target c : ℕ) (h : askable_of c ≡ true) where
  -- a call that changed the cell left what the run leaves, and the value has its origin in it
  abbrev Run : RunAnswered → Type 0
  Run a = (Same c s a.after → ⊥) → (a.after ≡ (run_of p target script s 0).after) × Origin p target script s c

  found_run : length p ≡ 4096 → state_judged s ≡ Ok tt → (k : Option ℕ) → Run (run_found_of p s script target k)
  unfolding run_found_of run_told_of
  found_run size f (Some i) = λ d. absurd (d refl)
  found_run size f None = λ d. (refl, no_digit_from_elsewhere p target script s c size f h d)

  judged_run : length p ≡ 4096 → (j : Result (Unit {0}) Refusal) → state_judged s ≡ j → Run (run_judged_of p s script target j)
  unfolding run_judged_of
  judged_run size (Ok tt) f = found_run size f (unknown_from script 0)
  judged_run size (Err why) f = λ d. absurd (d refl)

  pub run_digit : (at (run_call_of p s script target).after.memory c ≡ at s.memory c → ⊥)
      → ((run_call_of p s script target).after ≡ (run_of p target script s 0).after) × Origin p target script s c
  unfolding run_call_of
  run_digit = by_eq Run (length p) 4096 _ _ (λ size. judged_run size (state_judged s) refl) (λ n d. absurd (d refl))
