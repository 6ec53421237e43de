-- "A refusal changes no lent byte", but for 6, which "keeps the state after the events before it" (01, the table).
use Rattle.std.specs.Prelude.{Err, None, Ok, Option, Result, Some}
use mathlib.Core.Path.{◌≡◌, refl, sym, ap}
use mathlib.Core.Logic.{◌⊎◌, inl, inr}
use mathlib.Core.List.{List}
use Prim.Native.Nat.{ℕ}
use native.Mathlib.Omega.{arith}
use lib.Dec.{eqb}
use lib.ListN.{length}
use Rattle.lent.proofs.Laws.{by_choice}
use Rattle.refusal.specs.declared.Refusal.{Refusal}
use Rattle.refusal.specs.Refusal.{number_of}
use Rattle.sh_rules.specs.Judge.{state_judged}
use Rattle.sh_state.specs.State.{State}
use Rattle.sh_run.specs.declared.Stop.{Stop}
use Rattle.sh_run.specs.Run.{run_of}
use Rattle.call_run.specs.Run.{RunAnswered, run_answered, run_refused, reason_of, run_told_of, unknown_from, run_found_of, run_judged_of, run_call_of}
use Rattle.call_run.specs.declared.Reached.{Reached}

-- an answer that refuses by another number than 6 has done no event and leaves the state
abbrev Leaves : State → RunAnswered → Type 0
Leaves s a = (why : Refusal) → a.reason ≡ Err why → (number_of why ≡ 6 → ⊥) → a ≡ run_refused why s

reason_of_lem : {v w : Refusal} → ◌≡◌ {A = Result Reached Refusal} (Err v) (Err w) → v ≡ w
reason_of_lem e = cc

done_not_refused : {A : Type 0} {why : Refusal} (r : Result Reached Refusal) → (r ≡ (Ok Reached.Address)) ⊎ (r ≡ (Ok Reached.End)) → r ≡ Err why → A
done_not_refused r (inl a) e = let z : ◌≡◌ {A = ℕ} 0 2 = cc in absurd (omega arith)
done_not_refused r (inr a) e = let z : ◌≡◌ {A = ℕ} 1 2 = cc in absurd (omega arith)

-- of the ways that a run can stop only the unlisted word is a refusal, and that is 6
stopped_leaves : (s t : State) (n : ℕ) (k : Stop) → Leaves s (run_answered (reason_of k t.machine) n t)
unfolding reason_of
stopped_leaves s t n Stop.Address = λ why e f. done_not_refused (Ok Reached.Address) (inl refl) e
stopped_leaves s t n Stop.End = λ why e f. done_not_refused (Ok Reached.End) (inr refl) e
stopped_leaves s t n Stop.Unlisted = λ why e f. absurd (f (sym (ap number_of (reason_of_lem e))))

found_leaves : (p : List ℕ) (s : State) (script : List ℕ) (target : ℕ) (k : Option ℕ) → Leaves s (run_found_of p s script target k)
unfolding run_found_of run_told_of
found_leaves p s script target (Some i) = λ why e f. ap (λ (v : Refusal). run_refused v s) (reason_of_lem e)
found_leaves p s script target None =
    let r = run_of p target script s 0 in
    stopped_leaves s r.after r.events r.why

judged_leaves : (p : List ℕ) (s : State) (script : List ℕ) (target : ℕ) (j : Result (Unit {0}) Refusal) → Leaves s (run_judged_of p s script target j)
unfolding run_judged_of
judged_leaves p s script target (Ok tt) = found_leaves p s script target (unknown_from script 0)
judged_leaves p s script target (Err r) = λ why e f. ap (λ (v : Refusal). run_refused v s) (reason_of_lem e)

pub run_leaves : (p : List ℕ) (s : State) (script : List ℕ) (target : ℕ) (why : Refusal) → (run_call_of p s script target).reason ≡ Err why → (number_of why ≡ 6 → ⊥) → run_call_of p s script target ≡ run_refused why s
unfolding run_call_of
run_leaves p s script target =
    by_choice (Leaves s) (eqb (length p) 4096) _ _
    (judged_leaves p s script target (state_judged s))
    (λ why e f. ap (λ (v : Refusal). run_refused v s) (reason_of_lem e))
