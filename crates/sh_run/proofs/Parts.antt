-- Running a script is running its front and then, where that ended by its end, its rest.
use mathlib.Core.Path.{◌≡◌, refl}
use mathlib.Core.List.{List, [], ◌∷◌, ◌++◌}
use Prim.Native.Nat.{ℕ, ◌+◌}
use Rattle.lent.proofs.Laws.{test}
use Rattle.sh_state.specs.State.{State}
use Rattle.sh_events.specs.Event.{event_of}
use Rattle.sh_run.specs.declared.Stop.{Stop}
use Rattle.sh_run.specs.declared.Stop.TheVariants as stop
use Rattle.sh_run.specs.Run.{Ran, ran, reached_of, run_of}

-- a run goes on with the rest of the script only where it stopped by the script's end
pub go_on : List ℕ → ℕ → List ℕ → State → ℕ → Stop → Ran
go_on p target rest s n stop.Address = ran s stop.Address n
go_on p target rest s n stop.Unlisted = ran s stop.Unlisted n
go_on p target rest s n stop.End = run_of p target rest s n

pub run_parts : (p : List ℕ) (target : ℕ) (front rest : List ℕ) (s : State) (n : ℕ) →
    let r = run_of p target front s n in
    run_of p target (front ++ rest) s n ≡ go_on p target rest r.after r.events r.why
unfolding run_of go_on
run_parts p target [] rest s n = refl
run_parts p target (e ∷ front) rest s n =
    test (event_of p s e).stuck (λ b. rw b)
    (λ f. test (reached_of (event_of p s e).after.machine e target) (λ b. rw (f, b))
    (λ g. rw (f, g) (run_parts p target front rest (event_of p s e).after (n + 1))))
