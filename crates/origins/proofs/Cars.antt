-- The same of the run of two cars, of the call and of the call for C: where it leaves a car's cell other than it was, it left the car as the run of its own entries does, and the value has its origin in that run.
use mathlib.Core.Path.{◌≡◌, ◌∙◌, refl, ap}
use mathlib.Core.Bool.{true}
use mathlib.Core.Logic.{⊎_elim}
use mathlib.Core.List.{List}
use Prim.Native.Nat.{ℕ, zero, suc}
use lib.Dec.{eqb}
use lib.ListN.{length}
use Rattle.lent.specs.Lent.{at, both}
use Rattle.lent.proofs.Laws.{by_choice, by_eq}
use Rattle.sh_map.specs.Map.{askable_of}
use Rattle.sh_state.specs.State.{State}
use Rattle.sh_run.specs.Run.{run_of}
use Rattle.sh_two.specs.Two.{of_car, entries_of, own_of}
use Rattle.call_two.specs.RunTwo.{Lent, Answered, run_two_of}
use Rattle.call_two.proofs.Alone.{left_or_run}
use Rattle.wire.specs.Words.{words_of}
use Rattle.host.specs.RunTwo.{CarBytes, read_car, TwoRan, two_told, host_run_two_of}
use Rattle.origins.specs.Origin.{Origin}
use Rattle.origins.proofs.Calls.{run_digit}

module _ (script : List ℕ) (stop stop1 k c : ℕ) (h : askable_of c ≡ true) where
  abbrev target : ℕ
  target = of_car k stop stop1

  abbrev own : List ℕ
  own = own_of (of_car k 0 1) (entries_of script)

  module _ (p wiring : List ℕ) (a b : Lent) where
    abbrev start : State
    start = (of_car k a b).current

    abbrev left : State
    left = (of_car k (run_two_of p wiring a stop b stop1 script).first (run_two_of p wiring a stop b stop1 script).second).current

    pub two_digit : (at left.memory c ≡ at start.memory c → ⊥) → (left ≡ (run_of p target own start 0).after) × Origin p target own start c
    two_digit d =
        ⊎_elim (λ e. absurd (d (ap (λ (v : Lent). at v.current.memory c) e)))
        (λ e. let o = run_digit p start own target c h (λ f. d (ap (λ (s : State). at s.memory c) e ∙ f)) in (e ∙ o.0, o.1))
        (left_or_run p wiring a stop b stop1 script k)

-- what C lends of a car, as the call's answer has it
told_memory : (k : ℕ) (x : Answered) (reason reason1 entries : ℕ) → (of_car k (two_told x reason reason1 entries).first (two_told x reason reason1 entries).second).memory ≡ (of_car k x.first x.second).current.memory
unfolding two_told
told_memory zero x reason reason1 entries = refl
told_memory (suc k) x reason reason1 entries = refl

read_memory : (k : ℕ) (a b : CarBytes) → (of_car k (read_car a) (read_car b)).current.memory ≡ (of_car k a b).memory
read_memory zero a b = refl
read_memory (suc k) a b = refl

-- galhoveia_run_two
module _ (body wiring : List ℕ) (a b : CarBytes) (script : List ℕ) (stop stop1 reason reason1 entries k c : ℕ) (h : askable_of c ≡ true) where
  abbrev p : List ℕ
  p = words_of body 4096

  abbrev from : State
  from = (of_car k (read_car a) (read_car b)).current

  abbrev called : TwoRan
  called = host_run_two_of body wiring a b script stop stop1 reason reason1 entries

  abbrev Digit : TwoRan → Type 0
  Digit r =
      (at (of_car k r.first r.second).memory c ≡ at (of_car k a b).memory c → ⊥)
      → ((of_car k r.first r.second).memory ≡ (run_of p (target script stop stop1 k c h) (own script stop stop1 k c h) from 0).after.memory)
      × Origin p (target script stop stop1 k c h) (own script stop stop1 k c h) from c

  told_digit : Digit (two_told (run_two_of p wiring (read_car a) stop (read_car b) stop1 script) reason reason1 entries)
  told_digit d =
      let m = told_memory k (run_two_of p wiring (read_car a) stop (read_car b) stop1 script) reason reason1 entries in
      let o =
      two_digit script stop stop1 k c h p wiring (read_car a) (read_car b)
      (λ f. d (ap (λ (l : List ℕ). at l c) m ∙ (f ∙ ap (λ (l : List ℕ). at l c) (read_memory k a b)))) in
      (m ∙ ap (λ (s : State). s.memory) o.0, o.1)

  pub host_two_digit : Digit called
  unfolding host_run_two_of
  host_two_digit =
      by_eq Digit (length body) 8192 _ _
      (λ n. by_choice Digit (both (eqb (length a.bytes) 45) (eqb (length b.bytes) 45)) _ _ told_digit (λ d. absurd (d refl)))
      (λ n d. absurd (d refl))
