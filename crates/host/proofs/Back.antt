-- The list's bytes read back as its addresses: what a C program reads from the room, two bytes high byte first, is the list of writers.
use Rattle.std.specs.Prelude.{Result}
use Prim.Native.Nat.{ℕ, zero, suc, ◌+◌, ◌*◌, ◌<◌}
use mathlib.Core.Path.{◌≡◌, ◌∙◌}
use mathlib.Core.List.{List, [], ◌∷◌, ◌++◌}
use native.Mathlib.Omega.{arith}
use lib.ListN.{length}
use lib.Seq.{take_all}
use Rattle.lent.specs.Lent.{at, over}
use Rattle.lent.specs.Outcome.{Outcome}
use Rattle.lent.proofs.Laws.{by_test, by_lt, by_eq}
use Rattle.refusal.specs.Told.{done_told, refused_told}
use Rattle.sh_map.specs.Map.{askable_of}
use Rattle.writers.specs.Test.{writes_of}
use Rattle.writers.specs.List.{writers_from, writers_of}
use Rattle.writers.specs.Answer.{filled_of, listed_told}
use Rattle.wire.specs.Words.{words_of, pairs_of}
use Rattle.wire.proofs.Laws.{length_pairs, length_words}
use Rattle.wire.proofs.Trips.{words_back}
use Rattle.host.specs.Told.{Filled, room_told}
use Rattle.host.specs.List.{asked_of, host_list_of}
use Rattle.refusal.specs.declared.Refusal.{Refusal}

one_more_small : (a b : ℕ) (l : List ℕ) (k : ℕ) → a < b → ((j : ℕ) → at l j < b) → at (a ∷ l) k < b
one_more_small a b l zero h f = h
one_more_small a b l (suc j) h f = f j

-- an address of a program lies within it; past the list's end 0 stands
from_small : (a : ℕ) (p : List ℕ) (c k : ℕ) → at (writers_from a p c) k < a + length p + 1
unfolding writers_from
from_small a [] c k = omega arith
from_small a (w ∷ p) c k =
    by_test (λ (l : List ℕ). at l k < a + suc (length p) + 1) (writes_of w c) _ _
    (λ _. one_more_small a (a + suc (length p) + 1) (writers_from (a + 1) p c) k (omega arith) (λ j. omega (arith, from_small (a + 1) p c j)))
    (λ _. omega (arith, from_small (a + 1) p c k))

-- the bytes of a list and whatever follows them, read as words
bytes_back : (p : List ℕ) (c : ℕ) (r : List ℕ) → length p ≡ 4096 → words_of (pairs_of (writers_of p c) (length (writers_of p c)) ++ r) (length (writers_of p c)) ≡ writers_of p c
unfolding writers_of
bytes_back p c r h =
    words_back (writers_from 0 p c) r (length (writers_from 0 p c)) (omega arith) (λ k. omega (arith, from_small 0 p c k))
    ∙ take_all (length (writers_from 0 p c)) (writers_from 0 p c) (omega arith)

-- r counts two bytes for each address, and so many words of its room are the list
abbrev Back : List ℕ → ℕ → Filled → Type 0
Back p c r =
    r.counted.told.number ≡ 0 → (r.counted.count ≡ length (writers_of p c) * 2) × (words_of r.room (length (writers_of p c)) ≡ writers_of p c)

-- where galhoveia_list answers 0
pub list_back : (body : List ℕ) (c : ℕ) (room : List ℕ) (count : ℕ) → Back (words_of body 4096) c (host_list_of body c room count)
unfolding host_list_of asked_of filled_of room_told listed_told refused_told done_told over
list_back body c room count =
    let p = words_of body 4096 in
    let n = length (writers_of p c) in
    let Read : Outcome (Result ℕ Refusal) → Type 0 = λ a. Back p c (room_told listed_told a count) in
    by_eq (Back p c) (length body) 8192 _ _
    (λ h. by_test Read (askable_of c) _ _
    (λ a. by_lt Read (length room) (length (pairs_of (writers_of p c) n)) _ _ (λ k e. absurd (omega (arith, e)))
    (λ k e. (length_pairs (writers_of p c) n, bytes_back p c _ (length_words body 4096))))
    (λ a e. absurd (omega (arith, e))))
    (λ h e. absurd (omega (arith, e)))
