-- A run: where it leaves a cell with another value, a cycle of its script wrote that value.
use Rattle.std.specs.Prelude.{Ok}
use mathlib.Core.Path.{◌≡◌, ◌∙◌, refl, sym, ap, subst}
use mathlib.Core.Bool.{true}
use mathlib.Core.List.{List, [], ◌∷◌}
use Prim.Native.Nat.{ℕ, suc, ◌+◌, ◌<◌, ◌≤◌}
use native.Mathlib.Omega.{arith}
use lib.Dec.{eqb}
use lib.ListN.{length, take}
use borrow.Author.Tests.{eqb-true, eqb-false}
use Rattle.lent.specs.Lent.{at}
use Rattle.lent.proofs.Laws.{test, by_test, by_choice}
use Rattle.sh_map.specs.Map.{askable_of}
use Rattle.sh_state.specs.State.{State}
use Rattle.sh_rules.specs.Judge.{state_judged}
use Rattle.sh_events.specs.Event.{event_of}
use Rattle.sh_events.proofs.Stuck.{event_stuck}
use Rattle.sh_events.proofs.Keeps.{event_judged}
use Rattle.sh_run.specs.Run.{Ran, reached_of, run_of}
use Rattle.writers.specs.List.{writers_of, Has}
use Rattle.origins.specs.Origin.{after_of, Wrote, Origin}
use Rattle.origins.proofs.Leaves.{Same}
use Rattle.origins.proofs.Event.{event_wrote}

-- a run counts on from the events done before
run_counts : (p : List ℕ) (target : ℕ) (script : List ℕ) (s : State) (n : ℕ) → n ≤ (run_of p target script s n).events
unfolding run_of
run_counts p target [] s n = omega arith
run_counts p target (e ∷ script) s n =
    let t = (event_of p s e).after in
    let r = run_counts p target script t (n + 1) in
    by_choice (λ (r : Ran). n ≤ r.events) (event_of p s e).stuck _ _ (omega arith)
    (by_choice (λ (r : Ran). n ≤ r.events) (reached_of t.machine e target) _ _ (omega arith) (omega arith))

-- the origin of what a run leaves that had done n events before this script
record From (p script : List ℕ) (s : State) (n c : ℕ) (r : Ran) : Type 0 where
  place : ℕ
  inside : place < length script
  done : n + place < r.events
  cycle : at script place ≡ 0x00
  wrote : Wrote p (after_of p (take place script) s) c (at r.after.memory c)

module _ (p : List ℕ) (size : length p ≡ 4096) (c : ℕ) (h : askable_of c ≡ true) where
  -- the first event wrote it, and what was done after it left the cell
  here : (s : State) (e : ℕ) (script : List ℕ) (n : ℕ) (r : Ran) → state_judged s ≡ Ok tt → n < r.events
      → Same c (event_of p s e).after r.after → (Same c s r.after → ⊥) → From p (e ∷ script) s n c r
  unfolding after_of
  here s e script n r f k same d =
      let w = event_wrote p size c h s e f (λ z. d (same ∙ z)) in
      record { place = 0; inside = omega arith; done = omega arith; cycle = w.0; wrote = subst (Wrote p s c) (sym same) w.1 }

  -- or one of the rest
  later : (s : State) (e : ℕ) (script : List ℕ) (n : ℕ) (r : Ran) → From p script (event_of p s e).after (n + 1) c r → From p (e ∷ script) s n c r
  unfolding after_of
  later s e script n r o =
      let i = o.inside in
      let k = o.done in
      record { place = suc o.place; inside = omega arith; done = omega arith; cycle = o.cycle; wrote = o.wrote }

  origin_from : (target : ℕ) (script : List ℕ) (s : State) (n : ℕ) → state_judged s ≡ Ok tt
      → (Same c s (run_of p target script s n).after → ⊥) → From p script s n c (run_of p target script s n)
  unfolding run_of
  origin_from target [] s n f = λ d. absurd (d refl)
  origin_from target (e ∷ script) s n f =
      let t = (event_of p s e).after in
      let rest = run_of p target script t (n + 1) in
      let k : n + 1 ≤ rest.events = run_counts p target script t (n + 1) in
      let Found : Ran → Type 0 = λ (r : Ran). (Same c s r.after → ⊥) → From p (e ∷ script) s n c r in
      by_test Found (event_of p s e).stuck _ _ (λ b d. absurd (d (ap (λ (u : State). at u.memory c) (event_stuck p s e b))))
      (λ b. by_test Found (reached_of t.machine e target) _ _ (λ b d. here s e script n _ f (omega arith) refl d)
      (λ b d. test (eqb (at rest.after.memory c) (at t.memory c)) (λ q. here s e script n rest f (omega arith) (eqb-true _ _ q) d)
      (λ q. later s e script n rest (origin_from target script t (n + 1) (event_judged p s e f) (eqb-false _ _ q)))))

-- Where a data, display or scan cell has another value after a run than before it, a cycle of the script executed an instruction
-- at an address in the cell's list of writers, and that instruction left the value. So no interrupt, read of program data, timer,
-- pulse, pin or reset ever changes such a cell.
pub no_digit_from_elsewhere : (p : List ℕ) (target : ℕ) (script : List ℕ) (s : State) (c : ℕ)
    → length p ≡ 4096 → state_judged s ≡ Ok tt → askable_of c ≡ true
    → (at (run_of p target script s 0).after.memory c ≡ at s.memory c → ⊥) → Origin p target script s c
no_digit_from_elsewhere p target script s c size f h d =
    let o = origin_from p size c h target script s 0 f d in
    let k = o.done in
    record { place = o.place; inside = o.inside; done = omega arith; cycle = o.cycle; wrote = o.wrote }

-- So a cell that has no writers keeps its value in every run.
pub unwritten_stays : (p : List ℕ) (target : ℕ) (script : List ℕ) (s : State) (c : ℕ)
    → length p ≡ 4096 → state_judged s ≡ Ok tt → askable_of c ≡ true → writers_of p c ≡ []
    → at (run_of p target script s 0).after.memory c ≡ at s.memory c
unwritten_stays p target script s c size f h none =
    test (eqb (at (run_of p target script s 0).after.memory c) (at s.memory c)) (eqb-true _ _)
    (λ q. let w = (no_digit_from_elsewhere p target script s c size f h (eqb-false _ _ q)).wrote in absurd (subst (Has _) none w.listed))
