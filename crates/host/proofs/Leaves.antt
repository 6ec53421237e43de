-- "A refusal changes no lent byte" (01, the table), at the C boundary: a step, and a run that is not refused by 6, hand back the bytes that came in.
use Rattle.std.specs.Prelude.{Err, Ok, Result}
use mathlib.Core.Path.{◌≡◌, refl, ap}
use mathlib.Core.List.{List}
use Prim.Native.Nat.{ℕ, ◌<◌}
use lib.ListN.{length}
use Rattle.lent.specs.Lent.{at}
use Rattle.lent.proofs.Laws.{by_eq}
use Rattle.refusal.specs.declared.Refusal.{Refusal}
use Rattle.refusal.specs.Refusal.{number_of}
use Rattle.refusal.specs.Told.{done_told, refused_told}
use Rattle.sh_state.specs.State.{State, state}
use Rattle.answer.specs.Answer.{answered, outcome_told}
use Rattle.call_step.proofs.Leaves as step
use Rattle.call_run.specs.Run.{RunAnswered, run_answered, Stopped, stopped, refused_by, reason_told}
use Rattle.call_run.proofs.Leaves as run
use Rattle.wire.specs.Record.{record_of, bytes_of}
use Rattle.wire.specs.Words.{words_of}
use Rattle.wire.proofs.Trips.{back_and_there}
use Rattle.host.specs.Step.{Stepped, stepped, step_told, host_step_of}
use Rattle.host.specs.Run.{Ran, ran, run_told, host_run_of}
use Rattle.call_run.specs.declared.Reached.{Reached}

-- what C lends are bytes
abbrev pub Bytes : List ℕ → Type 0
Bytes b = (k : ℕ) → at b k < 256

-- The lent memory l and the lent record b.
module _ (l b : List ℕ) (n : length b ≡ 45) (fit : Bytes b) where
  again : bytes_of (record_of b) ≡ b
  again = back_and_there b n fit

  abbrev Left : Stepped → Type 0
  Left r = (r.told.number ≡ 0 → ⊥) → r ≡ stepped r.told l b

  answer_left : (o : Result (Unit {0}) Refusal) (s : State) → ((why : Refusal) → o ≡ Err why → s ≡ state (record_of b) l) → Left (step_told (answered o s))
  unfolding step_told outcome_told done_told
  answer_left (Ok tt) s h = λ f. absurd (f refl)
  answer_left (Err why) s h = λ f. rw (h why refl, again)

  abbrev RunLeft : Ran → ℕ → ℕ → Type 0
  RunLeft r reason events =
      (r.stop.told.number ≡ 0 → ⊥) → (r.stop.told.number ≡ 6 → ⊥) → r ≡ ran (stopped r.stop.told reason events) l b

  run_left : (r : Result Reached Refusal) (k : ℕ) (s : State) (reason events : ℕ) → ((why : Refusal) → r ≡ Err why → (number_of why ≡ 6 → ⊥) → s ≡ state (record_of b) l) → RunLeft (run_told (run_answered r k s) reason events) reason events
  unfolding run_told reason_told refused_by done_told refused_told
  run_left (Ok Reached.Address) k s reason events h = λ f g. absurd (f refl)
  run_left (Ok Reached.End) k s reason events h = λ f g. absurd (f refl)
  run_left (Err why) k s reason events h =
      by_eq (λ (z : Stopped). RunLeft (ran z s.memory (bytes_of s.machine)) reason events) (number_of why) 6 _ _
      (λ e f g. absurd (g e))
      (λ other f g. rw (h why refl other, again))

pub step_leaves : (body l b : List ℕ) (e : ℕ) → Bytes b → ((host_step_of body l b e).told.number ≡ 0 → ⊥) → host_step_of body l b e ≡ stepped (host_step_of body l b e).told l b
unfolding host_step_of
step_leaves body l b e fit =
    let Left : Stepped → Type 0 = λ r. (r.told.number ≡ 0 → ⊥) → r ≡ stepped r.told l b in
    by_eq Left (length body) 8192 _ _
    (λ h. by_eq Left (length b) 45 _ _
    (λ n. answer_left l b n fit _ _ (step.step_leaves (words_of body 4096) (state (record_of b) l) e))
    (λ n f. refl))
    (λ h f. refl)

pub run_leaves : (body l b script : List ℕ) (stop reason events : ℕ) → Bytes b →
    ((host_run_of body l b script stop reason events).stop.told.number ≡ 0 → ⊥) → ((host_run_of body l b script stop reason events).stop.told.number ≡ 6 → ⊥) →
    host_run_of body l b script stop reason events ≡ ran (stopped (host_run_of body l b script stop reason events).stop.told reason events) l b
unfolding host_run_of
run_leaves body l b script stop reason events fit =
    let Left : Ran → Type 0 = λ r. (r.stop.told.number ≡ 0 → ⊥) → (r.stop.told.number ≡ 6 → ⊥) → r ≡ ran (stopped r.stop.told reason events) l b in
    by_eq Left (length body) 8192 _ _
    (λ h. by_eq Left (length b) 45 _ _
    (λ n. run_left l b n fit _ _ _ reason events
    (λ why e other. ap (λ (a : RunAnswered). a.after) (run.run_leaves (words_of body 4096) (state (record_of b) l) script stop why e other)))
    (λ n f g. refl))
    (λ h f g. refl)
