-- What is told of the cross-reference's answers.
use Rattle.std.specs.Prelude.{Err, Ok, Result}
use mathlib.Core.Path.{◌≡◌, ◌∙◌, refl, sym, ap}
use mathlib.Core.List.{List}
use mathlib.Core.Bool.{true, false}
use Prim.Native.Nat.{ℕ}
use lib.Dec.{eqb}
use lib.ListN.{length}
use borrow.Author.Tests.{eq-eqb, eqb-true}
use Rattle.lent.specs.Outcome as lent
use Rattle.lent.proofs.Laws.{test}
use Rattle.refusal.specs.declared.Refusal.TheVariants.{ProgramLength, NotAskable}
use Rattle.refusal.specs.Told.{Said, Counted}
use Rattle.sh_map.specs.Map.{askable_of}
use Rattle.answer.specs.Answer.{outcome_told}
use Rattle.writers.specs.Answer.{listed_told}
use Rattle.xref.specs.Answer.{list_of}
use Rattle.xref.specs.Replace.{build_of, replaced, replace_of}
use Rattle.xref.proofs.Theorems.{Fresh, answer_exact}
use Rattle.host.specs.Told.{Filled, filled, room_told, count_told}
use Rattle.host.specs.List.{asked_of, host_list_of}
use Rattle.host.specs.Listings.{stored}
use Rattle.host.specs.References.{kept, tables_told, host_build_of, host_xref_list_of, replaced_told, host_replace_of}
use Rattle.refusal.specs.declared.Refusal.{Refusal}

pub list_counts : (a : Result ℕ Refusal) (count : ℕ) → count_told a count ≡ listed_told a count
unfolding count_told listed_told
list_counts (Ok n) count = refl
list_counts (Err why) count = refl

pub build_told : {o : Result (Unit {0}) Refusal} {t : List ℕ} {s : Said} (body t₀ : List ℕ) → lent.outcome o t ≡ build_of body t₀ → s ≡ outcome_told o → stored s t ≡ host_build_of body t₀
unfolding host_build_of tables_told
build_told body t₀ e q = rw (← e, q)

pub list_told : {a : Result ℕ Refusal} {o : List ℕ} {k : Counted} (body t : List ℕ) (cell : ℕ) (room : List ℕ) (count : ℕ) → lent.outcome a o ≡ list_of body t cell room → k ≡ listed_told a count
    → filled k o ≡ host_xref_list_of body t cell room count
unfolding host_xref_list_of room_told
list_told body t cell room count e q = rw (← e, q)

pub replace_told : {o : Result (Unit {0}) Refusal} {body t : List ℕ} {s : Said} (body₀ t₀ : List ℕ) (a w : ℕ) → replaced o body t ≡ replace_of body₀ t₀ a w → s ≡ outcome_told o
    → kept s body t ≡ host_replace_of body₀ t₀ a w
unfolding host_replace_of replaced_told
replace_told body₀ t₀ a w e q = rw (← e, q)

module _ (body t : List ℕ) (cell : ℕ) (room : List ℕ) where
  not_asked : length body ≡ 8192 → askable_of cell ≡ false → list_of body t cell room ≡ lent.outcome (Err (NotAskable cell)) room
  unfolding list_of
  not_asked e a = rw (eq-eqb (length body) 8192 e, a)

  other_length : eqb (length body) 8192 ≡ false → list_of body t cell room ≡ lent.outcome (Err (ProgramLength (length body))) room
  unfolding list_of
  other_length n = rw n

  -- an answer by the tables that a fresh build gives is what the list of writers answers, for every program, cell, room and count, refusals too
  pub xref_as_list : (count : ℕ) → Fresh body t → host_xref_list_of body t cell room count ≡ host_list_of body cell room count
  unfolding host_xref_list_of host_list_of asked_of
  xref_as_list count f =
      let told : lent.Outcome (Result ℕ Refusal) → Filled = λ r. room_told listed_told r count in
      test (eqb (length body) 8192)
      (λ n.
      let e = eqb-true (length body) 8192 n in
      test (askable_of cell) (λ a. rw (n, a) (ap told (answer_exact body t cell room e a f))) (λ a. rw (n, a) (ap told (not_asked e a))))
      (λ n. rw n (ap told (other_length n)))
