-- "A refusal changes no lent byte" (01, the table; 02, P5: "before anything moves"), of the run of two cars at the C boundary.
use Rattle.std.specs.Prelude.{Err, Ok, Result}
use mathlib.Core.Path.{◌≡◌, refl, ap}
use mathlib.Core.List.{List}
use Prim.Native.Nat.{ℕ}
use lib.Dec.{eqb}
use lib.ListN.{length}
use Rattle.lent.specs.Lent.{both}
use Rattle.lent.proofs.Laws.{by_test, by_eq}
use Rattle.refusal.specs.declared.Refusal.{Refusal}
use Rattle.refusal.specs.Told.{done_told, refused_told}
use Rattle.call_two.specs.RunTwo.{Answered, answered, run_two_of, outs, outs_of}
use Rattle.call_two.proofs.Alone.{refused_leaves}
use Rattle.wire.specs.Words.{words_of}
use Rattle.wire.proofs.Trips.{back_and_there}
use Rattle.host.specs.RunTwo.{CarBytes, car_bytes, TwoRan, two_ran, read_car, written_car, two_told, host_run_two_of}
use Rattle.host.proofs.Leaves.{Bytes}
use Rattle.host.proofs.Cars.{whole_records}
use Rattle.call_two.specs.declared.Ended.{Ended}

-- a record read and written back
written_back : (a : CarBytes) → length a.bytes ≡ 45 → Bytes a.bytes → written_car (read_car a) ≡ a
written_back a n fit = ap (λ (b : List ℕ). car_bytes a.memory b a.room) (back_and_there a.bytes n fit)

module _ (body wiring : List ℕ) (a b : CarBytes) (script : List ℕ) (stop stop1 reason reason1 entries : ℕ) (fit : Bytes a.bytes) (fit1 : Bytes b.bytes) where
  abbrev Left : TwoRan → Type 0
  Left r = (r.said.told.number ≡ 0 → ⊥) → r ≡ two_ran (outs r.said.told reason reason1 entries) a b

  told_left : length a.bytes ≡ 45 → length b.bytes ≡ 45 → (x : Answered) (o : Result Ended Refusal) → x.outcome ≡ o → ((why : Refusal) → x.outcome ≡ Err why → x ≡ answered (Err why) (read_car a) (read_car b)) → Left (two_told x reason reason1 entries)
  unfolding two_told outs_of done_told refused_told
  told_left n n1 x (Ok d) e h = λ f. absurd (f (rw e))
  told_left n n1 x (Err why) e h = λ f. rw (h why e, written_back a n fit, written_back b n1 fit1)

  pub two_leaves : Left (host_run_two_of body wiring a b script stop stop1 reason reason1 entries)
  unfolding host_run_two_of
  two_leaves =
      by_eq Left (length body) 8192 _ _
      (λ h. by_test Left (both (eqb (length a.bytes) 45) (eqb (length b.bytes) 45)) _ _
      (λ t. let n = whole_records a.bytes b.bytes refl t in
      told_left n.0 n.1 (run_two_of (words_of body 4096) wiring (read_car a) stop (read_car b) stop1 script) _ refl (refused_leaves (words_of body 4096) wiring (read_car a) stop (read_car b) stop1 script))
      (λ t f. refl))
      (λ h f. refl)
