-- What the writers' answer says of the list as bytes: a count is the length of the list, which stands first in the room, and the one refusal that a whole program and a room of its length leave is 8.
use Rattle.std.specs.Prelude.{Err, Ok, Result}
use Prim.Native.Nat.{ℕ, suc, ◌+◌, ◌*◌, ◌≤◌, ◌<◌}
use mathlib.Core.Path.{◌≡◌, sym, ap}
use mathlib.Core.Bool.{true, false}
use mathlib.Core.List.{List, [], ◌∷◌}
use native.Mathlib.Omega.{arith}
use lib.ListN.{length, drop}
use borrow.Author.Tests.{lt-ltb, le-ltb}
use Rattle.lent.specs.Lent.{pasted_of, over}
use Rattle.lent.proofs.Laws.{by_test, by_lt, by_eq, pasted_front}
use Rattle.refusal.specs.declared.Refusal.{Refusal}
use Rattle.refusal.specs.declared.Refusal.TheVariants.{Room, NotAskable}
use Rattle.refusal.specs.Told.{Said, Counted, counted, done_told, refused_told}
use Rattle.sh_map.specs.Map.{askable_of}
use Rattle.writers.specs.Test.{writes_of}
use Rattle.writers.specs.List.{writers_from, writers_of}
use Rattle.writers.specs.Answer.{filled_of, list_of, listed_told}
use Rattle.lent.specs.Outcome.{Outcome, outcome}
use Rattle.wire.specs.Words.{pairs_of}
use Rattle.wire.proofs.Laws.{length_pairs, pairs_front}
use Rattle.host.specs.Told.{Filled, filled, room_told}
use Rattle.host.specs.List.{asked_of}

from_within : (a : ℕ) (p : List ℕ) (c : ℕ) → length (writers_from a p c) ≤ length p
unfolding writers_from
from_within a [] c = omega arith
from_within a (w ∷ p) c =
    let r = from_within (a + 1) p c in
    by_test (λ (l : List ℕ). length l ≤ suc (length p)) (writes_of w c) _ _ (λ _. omega arith) (λ _. omega arith)

-- a list of addresses of a program is no longer than the program
list_within : (p : List ℕ) (c : ℕ) → length (writers_of p c) ≤ length p
unfolding writers_of
list_within p c = from_within 0 p c

apart : {n : ℕ} {why : Refusal} {A : Type 0} → Ok n ≡ Err why → A
apart e = let z : ◌≡◌ {A = ℕ} 0 1 = cc in absurd (omega arith)

answers : {a : Result ℕ Refusal} {t : List ℕ} {r : Outcome (Result ℕ Refusal)} → outcome a t ≡ r → a ≡ r.answer
answers e = ap (λ (x : Outcome (Result ℕ Refusal)). x.answer) e

count_of : {n m : ℕ} → ◌≡◌ {A = Result ℕ Refusal} (Ok n) (Ok m) → n ≡ m
count_of e = cc

reason_of_lem : {v w : Refusal} → ◌≡◌ {A = Result ℕ Refusal} (Err v) (Err w) → v ≡ w
reason_of_lem e = cc

-- What an answer says, where a room o was lent and t is what it holds after the call.
module _ (p : List ℕ) (c : ℕ) (o t : List ℕ) where
  counted_is : (n : ℕ) → outcome (Ok n) t ≡ list_of p c o → (askable_of c ≡ true) × (n ≡ length (writers_of p c)) × (t ≡ over (writers_of p c) o)
  unfolding list_of filled_of
  counted_is n =
      let Says : Outcome (Result ℕ Refusal) → Type 0 = λ r. outcome (Ok n) t ≡ r → (askable_of c ≡ true) × (n ≡ length (writers_of p c)) × (t ≡ over (writers_of p c) o) in
      by_eq Says (length p) 4096 _ _
      (λ h. by_test Says (askable_of c) _ _
      (λ a. by_lt Says (length o) (length (writers_of p c)) _ _ (λ k e. apart (answers e))
      (λ k e. (a, count_of (answers e), ap (λ (x : Outcome (Result ℕ Refusal)). x.room) e)))
      (λ a e. apart (answers e)))
      (λ h e. apart (answers e))

  refused_is : (why : Refusal) → length p ≡ 4096 → length o ≡ 4096 → outcome (Err why) t ≡ list_of p c o → (askable_of c ≡ false) × (why ≡ NotAskable c)
  unfolding list_of filled_of
  refused_is why f g =
      let Says : Outcome (Result ℕ Refusal) → Type 0 = λ r. outcome (Err why) t ≡ r → (askable_of c ≡ false) × (why ≡ NotAskable c) in
      by_eq Says (length p) 4096 _ _
      (λ h. by_test Says (askable_of c) _ _
      (λ a. by_lt Says (length o) (length (writers_of p c)) _ _ (λ k e. absurd (omega (arith, list_within p c)))
      (λ k e. apart (sym (answers e))))
      (λ a e. (a, reason_of_lem (answers e))))
      (λ h e. absurd (h f))

  -- the first entries of the room, as many as are told, are the list
  counted_bytes : (n : ℕ) → outcome (Ok n) t ≡ list_of p c o → pairs_of t n ≡ pairs_of (writers_of p c) (length (writers_of p c))
  unfolding over
  counted_bytes n e =
      let k = counted_is n e in
      rw (k.1, k.2) (pairs_front (writers_of p c) (drop (length (writers_of p c)) o) (length (writers_of p c)) (omega arith))

-- The list as bytes, where the words w and the answer a are known.
module _ (p w : List ℕ) (c : ℕ) (o t : List ℕ) (a : Result ℕ Refusal) (q : w ≡ p) (e : outcome a t ≡ list_of w c o) where
  answer_known : {j : Result ℕ Refusal} → a ≡ j → outcome j t ≡ list_of p c o
  answer_known k = rw (← k, ← q) e

  pub counted_within : (n : ℕ) → a ≡ Ok n → length p ≡ 4096 → n ≤ 4096
  counted_within n k h = omega (arith, (counted_is p c o t n (answer_known k)).1, list_within p c)

  pub counted_told : (n count : ℕ) (room : List ℕ) {r : Filled} → a ≡ Ok n → r ≡ room_told listed_told (filled_of (pairs_of t n) room) count → r ≡ room_told listed_told (asked_of p c room) count
  unfolding asked_of
  counted_told n count room k u = rw ((counted_is p c o t n (answer_known k)).0, ← counted_bytes p c o t n (answer_known k)) u

  pub refused_told_lem : (why : Refusal) (count : ℕ) (room : List ℕ) {s : Said} → a ≡ Err why → length p ≡ 4096 → length o ≡ 4096 → s ≡ refused_told why → filled (counted s count) room ≡ room_told listed_told (asked_of p c room) count
  unfolding asked_of room_told listed_told
  refused_told_lem why count room k f g u =
      let s = refused_is p c o t why f g (answer_known k) in
      rw (s.0, ← s.1, u)

-- The bytes of n numbers in the room, or 7.
module _ (t room : List ℕ) (n count : ℕ) where
  pub no_room : {s : Said} → length room < n * 2 → s ≡ refused_told (Room (n * 2)) → filled (counted s count) room ≡ room_told listed_told (filled_of (pairs_of t n) room) count
  unfolding filled_of room_told listed_told
  no_room h e = rw (length_pairs t n, lt-ltb (length room) (n * 2) h, e)

  pub in_room : {o : List ℕ} {k : Counted} → n * 2 ≤ length room → o ≡ pasted_of room 0 (pairs_of t n) → k ≡ counted done_told (n * 2) → filled k o ≡ room_told listed_told (filled_of (pairs_of t n) room) count
  unfolding filled_of room_told listed_told over
  in_room h e g =
      let f = pasted_front room (pairs_of t n) (omega (arith, length_pairs t n)) in
      rw (e, f, g, length_pairs t n, le-ltb (length room) (n * 2) h)
