-- `sh_edges::edges`: operations on bits go bit by bit, and each of the four bits that the masks leave is the edge of its pin.
use lib.Bits.{and_mod, and_shr, bit_and, bit_or, bit_xor, mask_lt, or_mod, or_shr, xor_mod, xor_shr}
use native.Mathlib.Omega.{arith}
use Rattle.lent.proofs.Laws.{by_choice, by_eq}
use native.Mathlib.Nat.{div-one, zero-div}
use Rattle.sh_edges.specs.Edges.{edge_of, edges_of}
use lib.Dec.{eqb}
use mathlib.Core.Path.{refl, sym, ◌∙◌, ◌≡◌}
use Prim.Native.Nat.{suc, zero, ℕ, ◌%◌, ◌*◌, ◌+◌, ◌/◌, ◌<◌, ◌^◌, ◌≤◌}
use Rattle.sh_edges.proofs.edges.Goals as goal

module _ (op : ℕ → ℕ → ℕ)
    (high : (a b k : ℕ) → op a b / 2 ^ k ≡ op (a / 2 ^ k) (b / 2 ^ k))
    (low : (a b k : ℕ) → op a b % 2 ^ k ≡ op (a % 2 ^ k) (b % 2 ^ k)) where
  bit_of_lem : (k a b : ℕ) → op a b / 2 ^ k % 2 ≡ op (a / 2 ^ k % 2) (b / 2 ^ k % 2)
  bit_of_lem k a b = rw (high a b k) (low (a / 2 ^ k) (b / 2 ^ k) 1)

abbrev fallen : ℕ → ℕ → ℕ → ℕ → ℕ → ℕ
fallen old new control turned mask = bit_and (bit_and (bit_xor old turned) (bit_xor (bit_or (bit_xor new turned) control) mask)) mask

fallen_small : (old new control turned : ℕ) → fallen old new control turned 15 < 16
fallen_small old new control turned = mask_lt (bit_and (bit_xor old turned) (bit_xor (bit_or (bit_xor new turned) control) 15)) 4

fallen_bit : (old new control turned mask k : ℕ)
    → fallen old new control turned mask / 2 ^ k % 2
    ≡ fallen (old / 2 ^ k % 2) (new / 2 ^ k % 2) (control / 2 ^ k % 2) (turned / 2 ^ k % 2) (mask / 2 ^ k % 2)
fallen_bit old new control turned mask k =
    simp (bit_of_lem bit_and and_shr and_mod k, bit_of_lem bit_xor xor_shr xor_mod k, bit_of_lem bit_or or_shr or_mod k)

turned_bit : (rising k : ℕ) → rising ≤ 1 → 15 / 2 ^ k % 2 ≡ 1 → 15 * rising / 2 ^ k % 2 ≡ rising
turned_bit zero k h m = rw (zero-div (2 ^ k))
turned_bit (suc zero) k h m = m
turned_bit (suc (suc r)) k h m = absurd (omega arith)

by_two_bits : (P : ℕ → ℕ → Type 0) → P 0 0 → P 0 1 → P 1 0 → P 1 1 → (v w : ℕ) → v < 2 → w < 2 → P v w
by_two_bits P a b c d zero zero h i = a
by_two_bits P a b c d zero (suc zero) h i = b
by_two_bits P a b c d zero (suc (suc w)) h i = absurd (omega arith)
by_two_bits P a b c d (suc zero) zero h i = c
by_two_bits P a b c d (suc zero) (suc zero) h i = d
by_two_bits P a b c d (suc zero) (suc (suc w)) h i = absurd (omega arith)
by_two_bits P a b c d (suc (suc v)) w h i = absurd (omega arith)

abbrev Edge : ℕ → ℕ → ℕ → ℕ → Type 0
Edge old new control rising = fallen old new control rising 1 ≡ edge_of old new control rising

bit_edge : (old new control rising : ℕ) → old < 2 → new < 2 → control < 2 → rising < 2 → Edge old new control rising
unfolding edge_of
bit_edge old new control rising o n c r =
    by_two_bits (λ v w. Edge v w control rising) (by_two_bits (Edge 0 0) refl refl refl refl control rising c r)
    (by_two_bits (Edge 0 1) refl refl refl refl control rising c r) (by_two_bits (Edge 1 0) refl refl refl refl control rising c r)
    (by_two_bits (Edge 1 1) refl refl refl refl control rising c r) old new o n

no_edge : (old new control rising : ℕ) → (new ≡ rising → ⊥) → edge_of old new control rising ≡ 0
unfolding edge_of
no_edge old new control rising n =
    by_choice (λ v. v ≡ 0) (eqb control 0) _ 0
    (by_choice (λ v. v ≡ 0) (eqb old new) 0 _ refl (by_eq (λ v. v ≡ 0) new rising 1 0 (λ e. absurd (n e)) (λ _. refl))) refl

nibble : (n : ℕ) → n < 16 → n ≡ n % 2 + 2 * (n / 2 % 2) + 4 * (n / 4 % 2) + 8 * (n / 8 % 2)
nibble n h =
    let quarter : n / 4 ≡ n / 2 / 2 = omega arith in
    let eighth : n / 8 ≡ n / 4 / 2 = omega arith in
    let last : n / 8 < 2 = omega arith in
    let top : n / 8 % 2 ≡ n / 8 = omega arith in
    omega arith

module _ (old new control rising : ℕ) where
  -- a nibble whose bits are the edges of their pins
  whole : (n : ℕ) → n < 16
      → ((k : ℕ) → 15 / 2 ^ k % 2 ≡ 1 → n / 2 ^ k % 2 ≡ edge_of (old / 2 ^ k % 2) (new / 2 ^ k % 2) (control / 2 ^ k % 2) rising)
      → n ≡ edges_of old new control rising
  unfolding edges_of
  whole n h e =
      let first = rw (div-one n, div-one old, div-one new, div-one control) at (e 0 refl) in
      nibble n h ∙ rw (first, e 1 refl, e 2 refl, e 3 refl)

  masked : rising ≤ 1 → fallen old new control (15 * rising) 15 ≡ edges_of old new control rising
  masked h =
      whole (fallen old new control (15 * rising) 15) (fallen_small old new control (15 * rising))
      (λ k m. fallen_bit old new control (15 * rising) 15 k
      ∙ rw (m, turned_bit rising k h m)
      (bit_edge (old / 2 ^ k % 2) (new / 2 ^ k % 2) (control / 2 ^ k % 2) rising (omega arith) (omega arith) (omega arith) (omega arith)))

  none : 1 < rising → 0 ≡ edges_of old new control rising
  none h =
      whole 0 (omega arith)
      (λ k m. rw (zero-div (2 ^ k)) (sym (no_edge (old / 2 ^ k % 2) (new / 2 ^ k % 2) (control / 2 ^ k % 2) rising (λ e. omega arith))))

pub returns-then-rising-gt1 : goal.returns-then-rising-gt1
returns-then-rising-gt1 c = let a = c.args in none a.old a.new a.control a.rising c.if-rising-gt1.true

pub returns : goal.returns
returns c = let a = c.args in masked a.old a.new a.control a.rising c.if-rising-gt1.false
