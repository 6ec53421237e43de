-- A run keeps a well-formed machine well formed, wherever it stops.
use Rattle.std.specs.Prelude.{Ok}
use mathlib.Core.Path.{◌≡◌}
use mathlib.Core.List.{List, [], ◌∷◌}
use Prim.Native.Nat.{ℕ, ◌+◌}
use Rattle.lent.proofs.Laws.{by_choice}
use Rattle.sh_rules.specs.Judge.{state_judged}
use Rattle.sh_state.specs.State.{State}
use Rattle.sh_rules.proofs.Fits.{Fit, fit_of, judged_of}
use Rattle.sh_events.specs.Event.{event_of}
use Rattle.sh_events.proofs.Keeps.{event_keeps}
use Rattle.sh_run.specs.Run.{Ran, reached_of, run_of}

pub run_keeps : (p : List ℕ) (target : ℕ) (script : List ℕ) (s : State) (n : ℕ) → Fit s → Fit (run_of p target script s n).after
unfolding run_of
run_keeps p target [] s n f = f
run_keeps p target (e ∷ script) s n f =
    let g = event_keeps p s e f in
    by_choice (λ (r : Ran). Fit r.after) (event_of p s e).stuck _ _ g
    (by_choice (λ (r : Ran). Fit r.after) (reached_of (event_of p s e).after.machine e target) _ _ g
    (run_keeps p target script (event_of p s e).after (n + 1) g))

-- the same in the words by which a call turns a machine down
pub run_judged : (p : List ℕ) (target : ℕ) (script : List ℕ) (s : State) (n : ℕ) → state_judged s ≡ Ok tt → state_judged (run_of p target script s n).after ≡ Ok tt
run_judged p target script s n h = judged_of (run_keeps p target script s n (fit_of s h))
