-- What the answer of the call says: a count is the length of the exact list, which stands in the room, and a refusal leaves the room.
use Rattle.std.specs.Prelude.{Err, Ok, Result}
use mathlib.Core.Path.{◌≡◌, refl}
use mathlib.Core.List.{List}
use Prim.Native.Nat.{ℕ, ◌<◌}
use lib.ListN.{length, take, drop}
use lib.Seq.{take-append_seam, drop-append_seam}
use Rattle.lent.proofs.Laws.{by_test, by_lt, by_eq}
use Rattle.refusal.specs.declared.Refusal.{Refusal}
use Rattle.refusal.specs.declared.Refusal.TheVariants.{Room}
use Rattle.sh_map.specs.Map.{askable_of}
use Rattle.writers.specs.List.{writers_of, Listing}
use Rattle.writers.specs.Answer.{filled_of, list_of}
use Rattle.lent.specs.Lent.{over}
use Rattle.lent.specs.Outcome.{Outcome}
use Rattle.writers.proofs.Listing.{listed_exactly}

module _ (p : List ℕ) (c : ℕ) (o : List ℕ) where
  -- the first entries, as many as are told, are the exact list, and what lay beyond stays
  pub counted : (n : ℕ) → (list_of p c o).answer ≡ Ok n → Listing p c (take n (list_of p c o).room) × (drop n (list_of p c o).room ≡ drop n o)
  unfolding list_of filled_of over
  counted n =
      let Says : Outcome (Result ℕ Refusal) → Type 0 = λ r. r.answer ≡ Ok n → Listing p c (take n r.room) × (drop n r.room ≡ drop n o) in
      let l = writers_of p c in
      by_eq Says (length p) 4096 _ _
      (λ h. by_test Says (askable_of c) _ _
      (λ a. by_lt Says (length o) (length l) _ _ (λ k e. cc)
      (λ k e. let q : n ≡ length l = cc in rw (q, take-append_seam l, drop-append_seam l) (listed_exactly p c h a, refl)))
      (λ a e. cc))
      (λ h e. cc)

  -- "A refusal changes no lent byte"
  pub refused_stays : (why : Refusal) → (list_of p c o).answer ≡ Err why → (list_of p c o).room ≡ o
  unfolding list_of filled_of
  refused_stays why =
      let Says : Outcome (Result ℕ Refusal) → Type 0 = λ r. r.answer ≡ Err why → r.room ≡ o in
      by_eq Says (length p) 4096 _ _
      (λ h. by_test Says (askable_of c) _ _
      (λ a. by_lt Says (length o) (length (writers_of p c)) _ _ (λ k e. refl) (λ k e. cc))
      (λ a e. refl))
      (λ h e. refl)

  -- 7 tells the length of the exact list, for which the room is too small
  pub room_needed : (n : ℕ) → (list_of p c o).answer ≡ Err (Room n) → Listing p c (writers_of p c) × (n ≡ length (writers_of p c)) × (length o < n)
  unfolding list_of filled_of
  room_needed n =
      let Says : Outcome (Result ℕ Refusal) → Type 0 = λ r. r.answer ≡ Err (Room n) → Listing p c (writers_of p c) × (n ≡ length (writers_of p c)) × (length o < n) in
      let l = writers_of p c in
      by_eq Says (length p) 4096 _ _
      (λ h. by_test Says (askable_of c) _ _
      (λ a. by_lt Says (length o) (length l) _ _ (λ k e. let q : n ≡ length l = cc in (listed_exactly p c h a, q, rw q k))
      (λ k e. cc))
      (λ a e. cc))
      (λ h e. cc)
