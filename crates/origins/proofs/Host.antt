-- The same of the calls for C, by the definitions that their contracts equate: the program is the words of its bytes, the machine that of
-- the record's bytes, and a call that refuses leaves every cell.
use mathlib.Core.Path.{◌≡◌, refl, ap}
use mathlib.Core.Bool.{true}
use mathlib.Core.List.{List}
use Prim.Native.Nat.{ℕ}
use lib.ListN.{length}
use Rattle.lent.specs.Lent.{at}
use Rattle.lent.proofs.Laws.{by_eq}
use Rattle.sh_map.specs.Map.{askable_of}
use Rattle.sh_state.specs.State.{State, state}
use Rattle.sh_run.specs.Run.{run_of}
use Rattle.wire.specs.Record.{record_of}
use Rattle.wire.specs.Words.{words_of}
use Rattle.host.specs.Step.{Stepped, step_told, host_step_of}
use Rattle.host.specs.Run.{Ran, run_told, host_run_of}
use Rattle.origins.specs.Origin.{Wrote, Origin}
use Rattle.origins.proofs.Calls.{step_digit, run_digit}

module _ (body l b : List ℕ) (c : ℕ) (h : askable_of c ≡ true) where
  -- galhoveia_step: where it leaves the cell's byte other than it was, it was a cycle that wrote it
  pub host_step_digit : (e : ℕ) → (at (host_step_of body l b e).memory c ≡ at l c → ⊥)
      → (e ≡ 0x00) × Wrote (words_of body 4096) (state (record_of b) l) c (at (host_step_of body l b e).memory c)
  unfolding host_step_of step_told
  host_step_digit e =
      let s = state (record_of b) l in
      let Digit : Stepped → Type 0 = λ r. (at r.memory c ≡ at l c → ⊥) → (e ≡ 0x00) × Wrote (words_of body 4096) s c (at r.memory c) in
      by_eq Digit (length body) 8192 _ _
      (λ n. by_eq Digit (length b) 45 _ _ (λ k. step_digit (words_of body 4096) s e c h) (λ k d. absurd (d refl)))
      (λ n d. absurd (d refl))

  -- galhoveia_run: where it leaves the cell's byte other than it was, it left the memory of the run, and the value has its origin in it
  pub host_run_digit : (script : List ℕ) (stop reason events : ℕ)
      → (at (host_run_of body l b script stop reason events).memory c ≡ at l c → ⊥)
      → ((host_run_of body l b script stop reason events).memory ≡ (run_of (words_of body 4096) stop script (state (record_of b) l) 0).after.memory)
      × Origin (words_of body 4096) stop script (state (record_of b) l) c
  unfolding host_run_of run_told
  host_run_digit script stop reason events =
      let p = words_of body 4096 in
      let s = state (record_of b) l in
      let Digit : Ran → Type 0 = λ r. (at r.memory c ≡ at l c → ⊥) → (r.memory ≡ (run_of p stop script s 0).after.memory) × Origin p stop script s c in
      by_eq Digit (length body) 8192 _ _
      (λ n. by_eq Digit (length b) 45 _ _
      (λ k d. let o = run_digit p s script stop c h d in (ap (λ (t : State). t.memory) o.0, o.1)) (λ k d. absurd (d refl)))
      (λ n d. absurd (d refl))
