-- The run of two cars, for C, from its parts: what is told of an outcome, the words and records read, the answer, the records written back; and the tests on the lengths.
use Rattle.std.specs.Prelude.{Result}
use mathlib.Core.Path.{◌≡◌, ◌∙◌, ap, sym}
use mathlib.Core.Bool.{Bool, true, false}
use mathlib.Core.List.{List}
use Prim.Native.Nat.{ℕ}
use lib.Dec.{eqb}
use lib.ListN.{length}
use borrow.Author.Tests.{eqb-true, eq-eqb, ne_eqb}
use Rattle.lent.specs.Lent.{both, pasted_of}
use Rattle.lent.proofs.Laws.{both_true}
use Rattle.refusal.specs.declared.Refusal.TheVariants.{ProgramLength}
use Rattle.refusal.specs.Told.{Said, refused_told}
use Rattle.sh_state.specs.declared.machine.Machine.{Machine}
use Rattle.sh_state.specs.State.{state}
use Rattle.sh_rules.specs.Judge.{judged_told}
use Rattle.call_two.specs.RunTwo.{lent, lowest_of, Answered, run_two_of, Outs, outs, outs_of}
use Rattle.wire.specs.Record.{record_of, bytes_of}
use Rattle.wire.specs.Words.{words_of}
use Rattle.wire.proofs.Laws.{record_whole}
use Rattle.host.specs.RunTwo.{car_bytes, TwoRan, two_ran, read_car, two_told, car_judged, short_two, host_run_two_of}
use Rattle.call_two.specs.declared.Ended.{Ended}
use Rattle.refusal.specs.declared.Refusal.{Refusal}

pub outs_at : {i j : Result Ended Refusal} {r : Outs} (reason reason1 entries : ℕ) → i ≡ j → r ≡ outs_of j reason reason1 entries → r ≡ outs_of i reason reason1 entries
outs_at reason reason1 entries p q = q ∙ sym (ap (λ (k : Result Ended Refusal). outs_of k reason reason1 entries) p)

pub outs_said : {s t : Said} (reason reason1 entries : ℕ) → s ≡ t → outs s reason reason1 entries ≡ outs t reason reason1 entries
outs_said reason reason1 entries p = ap (λ (k : Said). outs k reason reason1 entries) p

pub short_two_lem : {j k k1 : Result (Unit {0}) Refusal} {s : Said} (l b l1 b1 : List ℕ) → k ≡ car_judged l b → k1 ≡ car_judged l1 b1 → j ≡ lowest_of k k1 → s ≡ judged_told j → s ≡ short_two l b l1 b1
unfolding short_two
short_two_lem l b l1 b1 p q r t = rw (← p, ← q, ← r) t

module _ (body wiring l b o l1 b1 o1 script : List ℕ) (stop stop1 reason reason1 entries : ℕ) where
  abbrev host : TwoRan
  host = host_run_two_of body wiring (car_bytes l b o) (car_bytes l1 b1 o1) script stop stop1 reason reason1 entries

  abbrev told : TwoRan
  told = two_told (run_two_of (words_of body 4096) wiring (read_car (car_bytes l b o)) stop (read_car (car_bytes l1 b1 o1)) stop1 script) reason reason1 entries

  pub two_told_lem : (w : List ℕ) (m m1 : Machine) (a : Answered) (k k1 : List ℕ) (n : Outs) → length b ≡ 45 → length b1 ≡ 45 → w ≡ words_of body 4096 → m ≡ record_of b → m1 ≡ record_of b1 →
      a ≡ run_two_of w wiring (lent (state m l) o) stop (lent (state m1 l1) o1) stop1 script → k ≡ pasted_of b 0 (bytes_of a.first.current.machine) → k1 ≡ pasted_of b1 0 (bytes_of a.second.current.machine) →
      n ≡ outs_of a.outcome reason reason1 entries → two_ran n (car_bytes a.first.current.memory k a.first.room) (car_bytes a.second.current.memory k1 a.second.room) ≡ told
  unfolding two_told
  two_told_lem w m m1 a k k1 n h h1 p q q1 r s s1 t =
      rw (← p, ← q, ← q1, ← r, s, record_whole a.first.current.machine b h, s1, record_whole a.second.current.machine b1 h1, t)

  pub two_length : {s : Said} → (length body ≡ 8192 → ⊥) → s ≡ refused_told (ProgramLength (length body)) → two_ran (outs s reason reason1 entries) (car_bytes l b o) (car_bytes l1 b1 o1) ≡ host
  unfolding host_run_two_of
  two_length h e = rw (ne_eqb (length body) 8192 h, e)

  module _ (h : length body ≡ 8192) (t : Bool) (e : t ≡ both (eqb (length b) 45) (eqb (length b1) 45)) where
    pub two_done : t ≡ true → {r : TwoRan} → r ≡ told → r ≡ host
    unfolding host_run_two_of
    two_done f p = rw (eq-eqb (length body) 8192 h, ← e, f) p

    pub two_short : t ≡ false → {s : Said} → s ≡ short_two l b l1 b1 → two_ran (outs s reason reason1 entries) (car_bytes l b o) (car_bytes l1 b1 o1) ≡ host
    unfolding host_run_two_of
    two_short f p = rw (eq-eqb (length body) 8192 h, ← e, f, p)

pub whole_records : (b b1 : List ℕ) {t : Bool} → t ≡ both (eqb (length b) 45) (eqb (length b1) 45) → t ≡ true → (length b ≡ 45) × (length b1 ≡ 45)
whole_records b b1 e f =
    let g = both_true (eqb (length b) 45) (eqb (length b1) 45) (sym e ∙ f) in
    (eqb-true (length b) 45 g.0, eqb-true (length b1) 45 g.1)
