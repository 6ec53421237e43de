-- A picture as it comes into a room, element by element.
use Rattle.std.specs.Prelude.{Ok}
use Rattle.std.proofs.lemmas.Grind.{same_number_lists}
use mathlib.Core.Path.{◌≡◌, ◌∙◌, refl, ap, sym}
use mathlib.Core.Bool.{Bool}
use mathlib.Core.List.{List, ◌++◌}
use Prim.Native.Nat.{ℕ, zero, suc, ◌+◌, ◌/◌, ◌<◌, ◌≤◌}
use native.Mathlib.Nat.{zero-add, add-zero, div-eq_of_lt, lt_of_lt_of_le}
use native.Mathlib.Omega.{arith}
use lib.ListN.{length, drop}
use lib.Pow.{pow_mono}
use borrow.Author.Tests.{le-ltb}
use Rattle.lent.specs.Lent.{at}
use Rattle.lent.proofs.Laws.{pasted_front}
use Rattle.lent.specs.Outcome.{outcome}
use Rattle.picture.specs.Picture.{bit_of, element_of, elements_from, shown_of, draw_of}

-- no byte has a bit beyond the seventh
pub no_bit : (v b : ℕ) → v < 256 → 8 ≤ b → 0 ≡ bit_of v b
unfolding bit_of
no_bit v b h k = rw (div-eq_of_lt (lt_of_lt_of_le h (pow_mono k)))

-- the elements of a picture, by their number
module _ (lit : Bool) (memory wiring : List ℕ) where
  elements_length : (n k : ℕ) → length (elements_from lit memory wiring n k) ≡ n
  unfolding elements_from
  elements_length zero k = refl
  elements_length (suc n) k = ap suc (elements_length n (k + 1))

  elements_at : (n k j : ℕ) → j < n → at (elements_from lit memory wiring n k) j ≡ element_of lit memory wiring (k + j)
  unfolding elements_from
  elements_at zero k j h = absurd (omega arith)
  elements_at (suc n) k zero h = rw add-zero
  elements_at (suc n) k (suc j) h = elements_at n (k + 1) j (omega arith) ∙ ap (element_of lit memory wiring) (omega arith)

  pub shown_length : length (shown_of lit memory wiring) ≡ length wiring / 3
  unfolding shown_of
  shown_length = elements_length (length wiring / 3) 0

  pub shown_at_lem : (k : ℕ) → k < length wiring / 3 → at (shown_of lit memory wiring) k ≡ element_of lit memory wiring k
  unfolding shown_of
  shown_at_lem k h = elements_at (length wiring / 3) 0 k h ∙ ap (element_of lit memory wiring) (zero-add k)

  -- all of them, at the front of a room
  pub drawn : (r l : List ℕ) → length wiring / 3 ≤ length r → length l ≡ length wiring / 3
      → ((j : ℕ) → j < length wiring / 3 → at l j ≡ element_of lit memory wiring j)
      → outcome (Ok (length wiring / 3)) (l ++ drop (length wiring / 3) r) ≡ draw_of (shown_of lit memory wiring) r
  unfolding draw_of
  drawn r l h e each =
      let s = shown_of lit memory wiring in
      let n = shown_length in
      let same : l ≡ s = same_number_lists l s (omega arith) (λ j k. each j (omega arith) ∙ sym (shown_at_lem j (omega arith))) in
      rw (le-ltb (length r) (length s) (omega arith), same, pasted_front r s (omega arith), n)
