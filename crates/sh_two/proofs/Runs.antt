-- What a run's count of events does: it goes along with the first, is no more than the script, and counts the event that reaches the address.
use mathlib.Core.Path.{◌≡◌, refl, ap}
use mathlib.Core.List.{List, [], ◌∷◌}
use Prim.Native.Nat.{ℕ, zero, suc, ◌+◌, ◌<◌, ◌≤◌}
use native.Mathlib.Nat.{le_refl}
use native.Mathlib.Omega.{arith}
use lib.ListN.{length, take}
use Rattle.lent.proofs.Laws.{test, by_test}
use Rattle.sh_state.specs.State.{State}
use Rattle.sh_events.specs.Event.{event_of}
use Rattle.sh_run.specs.declared.Stop.TheVariants as stop
use Rattle.sh_run.specs.Run.{Ran, ran, reached_of, run_of, stop_number}

abbrev pub more : Ran → Ran
more r = ran r.after r.why (r.events + 1)

pub counted_on : (p : List ℕ) (target : ℕ) (script : List ℕ) (s : State) (n : ℕ) → run_of p target script s (n + 1) ≡ more (run_of p target script s n)
unfolding run_of
counted_on p target [] s n = refl
counted_on p target (e ∷ script) s n =
    test (event_of p s e).stuck (λ b. rw b)
    (λ f. test (reached_of (event_of p s e).after.machine e target) (λ b. rw (f, b))
    (λ g. rw (f, g) (counted_on p target script (event_of p s e).after (n + 1))))

no_more : (p : List ℕ) (target : ℕ) (script : List ℕ) (s : State) (n : ℕ) → (run_of p target script s n).events ≤ n + length script
unfolding run_of
no_more p target [] s n = omega arith
no_more p target (e ∷ script) s n =
    let Few : Ran → Type 0 = λ r. r.events ≤ n + length (e ∷ script) in
    by_test Few (event_of p s e).stuck _ _ (λ _. omega arith)
    (λ _. by_test Few (reached_of (event_of p s e).after.machine e target) _ _ (λ _. omega arith)
    (λ _. omega (arith, no_more p target script (event_of p s e).after (n + 1))))

taken_few : (n : ℕ) (l : List ℕ) → length (take n l) ≤ n
taken_few zero l = le_refl 0
taken_few (suc n) [] = omega arith
taken_few (suc n) (x ∷ l) = omega (arith, taken_few n l)

pub few_events : (p : List ℕ) (target n : ℕ) (l : List ℕ) (s : State) {r : Ran} → r ≡ run_of p target (take n l) s 0 → r.events ≤ n
few_events p target n l s e = omega (arith, ap (λ (v : Ran). v.events) e, no_more p target (take n l) s 0, taken_few n l)

pub reached_counted : (p : List ℕ) (target : ℕ) (script : List ℕ) (s : State) (n : ℕ) → (run_of p target script s n).why ≡ stop.Address → n < (run_of p target script s n).events
unfolding run_of
reached_counted p target [] s n = λ e. let z : ◌≡◌ {A = ℕ} 2 0 = ap stop_number e in absurd (omega arith)
reached_counted p target (e ∷ script) s n =
    let Done : Ran → Type 0 = λ r. r.why ≡ stop.Address → n < r.events in
    by_test Done (event_of p s e).stuck _ _ (λ _ f. let z : ◌≡◌ {A = ℕ} 1 0 = ap stop_number f in absurd (omega arith))
    (λ _. by_test Done (reached_of (event_of p s e).after.machine e target) _ _ (λ _ _. omega arith)
    (λ _ f. omega (arith, reached_counted p target script (event_of p s e).after (n + 1) f)))
