-- Bits within a mask: what is cut from them, and what is joined of them, lies within it too.
use mathlib.Core.Path.{◌≡◌, ◌∙◌, refl}
use Prim.Native.Nat.{ℕ, ◌/◌, ◌%◌, ◌<◌, min, max}
use native.Mathlib.Omega.{arith}
use lib.Arith.{bin_ind}
use lib.Bits.{bit_and, bit_or, and_step, or_step, and_comm, and_mask}

and_digits : (a b : ℕ) → (bit_and a b / 2 ≡ bit_and (a / 2) (b / 2)) × (bit_and a b % 2 ≡ min (a % 2) (b % 2))
and_digits a b = omega (arith, and_step a b)

or_digits : (a b : ℕ) → (bit_or a b / 2 ≡ bit_or (a / 2) (b / 2)) × (bit_or a b % 2 ≡ max (a % 2) (b % 2))
or_digits a b = omega (arith, or_step a b)

and_assoc : (a b c : ℕ) → bit_and (bit_and a b) c ≡ bit_and a (bit_and b c)
and_assoc a =
    bin_ind (λ n. (b c : ℕ) → bit_and (bit_and n b) c ≡ bit_and n (bit_and b c)) (λ b c. refl)
    (λ n ih b c.
    let p = and_digits n b in
    let q = and_digits b c in
    rw (and_step (bit_and n b) c, and_step n (bit_and b c), p.0, p.1, q.0, q.1, ih (b / 2) (c / 2)) (omega arith)) a

and_over_or : (a b c : ℕ) → bit_and (bit_or a b) c ≡ bit_or (bit_and a c) (bit_and b c)
and_over_or a =
    bin_ind (λ n. (b c : ℕ) → bit_and (bit_or n b) c ≡ bit_or (bit_and n c) (bit_and b c)) (λ b c. refl)
    (λ n ih b c.
    let p = or_digits n b in
    let q = and_digits n c in
    let r = and_digits b c in
    rw (and_step (bit_or n b) c, or_step (bit_and n c) (bit_and b c), p.0, p.1, q.0, q.1, r.0, r.1, ih (b / 2) (c / 2)) (omega arith)) a

module _ (a b mask : ℕ) where
  pub joined_within : bit_and a mask ≡ a → bit_and b mask ≡ b → bit_and (bit_or a b) mask ≡ bit_or a b
  joined_within p q = rw (and_over_or a b mask, p, q)

  pub cut_within : bit_and b mask ≡ b → bit_and (bit_and a b) mask ≡ bit_and a b
  cut_within q = rw (and_assoc a b mask, q)

  pub cut_by_within : bit_and a mask ≡ a → bit_and (bit_and a b) mask ≡ bit_and a b
  cut_by_within p = rw (and_comm a b) (rw (and_assoc b a mask, p))

-- a nibble lies within all four bits
pub nibble_within : (v mask : ℕ) → v < 16 → mask ≡ 15 → bit_and v mask ≡ v
nibble_within v mask h e = rw e (and_mask v 4 ∙ omega arith)
