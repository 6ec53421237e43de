-- One event that no stretch takes, as the run finds it.
use mathlib.Core.Path.{◌≡◌, ◌∙◌, refl, ap, sym}
use mathlib.Core.Bool.{Bool, true, false}
use mathlib.Core.List.{List}
use Prim.Native.Nat.{ℕ, ◌+◌, ◌<◌, ◌≤◌}
use native.Mathlib.Omega.{arith}
use lib.ListN.{length, drop}
use borrow.Author.Tests.{ne_eqb}
use Rattle.lent.specs.Lent.{pick, at}
use Rattle.lent.proofs.Laws.{never}
use Rattle.sh_state.specs.State.{State}
use Rattle.sh_cycle.specs.Cycle.{Happened, happened, cycle_of}
use Rattle.sh_events.specs.Event.{other_of, event_of}
use Rattle.sh_run.specs.declared.Stop.TheVariants as stop
use Rattle.sh_run.specs.Run.{ran, reached_of, run_of}
use Rattle.sh_run.specs.Stretch.{at_of, on_of, passed_of, Onward, Passing}
use Rattle.sh_run.proofs.Laws.{run_stuck, run_at, run_on}

module _ (p : List ℕ) (target : ℕ) (script : List ℕ) (s : State) (i : ℕ) (lt : i < length script) where
  -- an event that is no cycle, by its part
  module _ (z : at script i ≡ 0 → ⊥) (t : State) (e : t ≡ other_of s (at script i)) where
    part_event : happened false t ≡ event_of p s (at script i)
    unfolding event_of
    part_event = rw (ne_eqb (at script i) 0 z, e)

    part_reached : false ≡ reached_of t.machine (at script i) target
    unfolding reached_of
    part_reached = rw (ne_eqb (at script i) 0 z)

    pub part_on : run_of p target (drop (i + 1) script) t (i + 1) ≡ run_of p target (drop i script) s i
    part_on = run_on p target script s i lt _ part_event refl _ part_reached refl

  pub part_by : (v : ℕ) → v ≡ at script i → 0 < v → (t : State) → t ≡ other_of s v → run_of p target (drop (i + 1) script) t (i + 1) ≡ run_of p target (drop i script) s i
  part_by v e h t f = part_on (λ k. absurd (omega (arith, e, h, k))) t (f ∙ ap (λ (n : ℕ). other_of s n) e)

  -- a cycle
  module _ (z : at script i ≡ 0) (h : Happened) (e : h ≡ cycle_of p s) where
    cycle_event : h ≡ event_of p s (at script i)
    unfolding event_of
    cycle_event = rw z e

    pub cycle_stuck : h.stuck ≡ true → ran h.after stop.Unlisted i ≡ run_of p target (drop i script) s i
    cycle_stuck = run_stuck p target script s i lt h cycle_event

    module _ (f : h.stuck ≡ false) where
      cycle_reached : at_of h.after.machine.pc target ≡ reached_of h.after.machine (at script i) target
      unfolding reached_of
      cycle_reached = rw z

      pub cycle_on : (b : Bool) → b ≡ at_of h.after.machine.pc target → on_of p target script b h.after (i + 1) ≡ run_of p target (drop i script) s i
      unfolding on_of
      cycle_on true g = run_at p target script s i lt h cycle_event f true (g ∙ cycle_reached) refl
      cycle_on false g = run_on p target script s i lt h cycle_event f false (g ∙ cycle_reached) refl

-- the next event that is no cycle
pub part_onward : {p : List ℕ} {target : ℕ} {script : List ℕ} {first : ℕ} {s t u : State} {i : ℕ} → Onward p target script first s false t i → i < length script → (at script i ≡ 0 → ⊥) → u ≡ other_of t (at script i) → Onward p target script first s false u (i + 1)
unfolding on_of
part_onward {p} {target} {script} {t = t} {u = u} {i = i} o lt z e = record { same = part_on p target script t i lt z u e ∙ o.same; from = omega (arith, o.from); to = omega arith }

-- What it leaves.
module _ {p : List ℕ} {target : ℕ} {script : List ℕ} {first : ℕ} {s : State} where
  pub held : {t : State} {n : ℕ} → ran t stop.Unlisted n ≡ run_of p target (drop first script) s first → n ≤ length script → Passing p target script first s true false t n
  unfolding passed_of
  held e g = record { same = e; on = λ f. never (sym f); to = g }

  pub passing : {b : Bool} {t : State} {n : ℕ} → on_of p target script b t n ≡ run_of p target (drop first script) s first → first < n → n ≤ length script → Passing p target script first s false b t n
  unfolding passed_of
  passing e f g = record { same = e; on = λ _. f; to = g }

  -- how the run goes on from it
  pub passed_stuck : {b r : Bool} {t : State} {n : ℕ} → Passing p target script first s b r t n → b ≡ true → ran t stop.Unlisted n ≡ run_of p target (drop first script) s first
  unfolding passed_of
  passed_stuck {r = r} {t = t} {n = n} o f = sym (ap (λ (k : Bool). pick k (ran t stop.Unlisted n) (on_of p target script r t n)) f) ∙ o.same

  passed_onward : {b r : Bool} {t : State} {n : ℕ} → Passing p target script first s b r t n → b ≡ false → on_of p target script r t n ≡ run_of p target (drop first script) s first
  unfolding passed_of
  passed_onward {r = r} {t = t} {n = n} o f = sym (ap (λ (k : Bool). pick k (ran t stop.Unlisted n) (on_of p target script r t n)) f) ∙ o.same

  pub passed_at : {b r : Bool} {t : State} {n : ℕ} → Passing p target script first s b r t n → b ≡ false → r ≡ true → ran t stop.Address n ≡ run_of p target (drop first script) s first
  unfolding on_of
  passed_at {t = t} {n = n} o f g = sym (ap (λ (k : Bool). pick k (ran t stop.Address n) (run_of p target (drop n script) t n)) g) ∙ passed_onward o f

  pub passed_on : {b r : Bool} {t : State} {n : ℕ} → Passing p target script first s b r t n → b ≡ false → r ≡ false → run_of p target (drop n script) t n ≡ run_of p target (drop first script) s first
  unfolding on_of
  passed_on {t = t} {n = n} o f g = sym (ap (λ (k : Bool). pick k (ran t stop.Address n) (run_of p target (drop n script) t n)) g) ∙ passed_onward o f
