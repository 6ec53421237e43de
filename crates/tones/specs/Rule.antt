-- The rule of the printed table (02, P1: "Show its rule over the whole of it: shift left within seven bits, the new low bit is the exclusive
-- or of the two top bits, from $01 with N 127 down to $40 with N 1"), and what follows: each value stands in it once.
use Rattle.std.specs.Prelude.{ℕ, ◌-◌, ◌<◌, ◌≡◌, length}
use Rattle.tones.specs.Tones.{printed, divider_of, tone_of, shifted_of}

pub record Rule : Type 0 where
  pub first : tone_of 127 ≡ 0x01
  pub next : (n : ℕ) → 1 < n → n < 128 → tone_of (n - 1) ≡ shifted_of (tone_of n)
  pub last : tone_of 1 ≡ 0x40
  -- the same of any number: a step from one that has an N above 1 leads to the one with the N below
  pub down : (v : ℕ) → 1 < divider_of v → divider_of (shifted_of v) ≡ divider_of v - 1

-- the values are the numbers 1 to 127, the N too, and each value goes with one N
pub record EachOnce : Type 0 where
  pub rows : length printed ≡ 127
  pub valued : (v : ℕ) → 0 < v → v < 128 → (0 < divider_of v) × (divider_of v < 128)
  pub others : (v : ℕ) → 0 < divider_of v → (0 < v) × (v < 128)
  pub there : (n : ℕ) → 0 < n → n < 128 → divider_of (tone_of n) ≡ n
  pub back : (v : ℕ) → 0 < divider_of v → tone_of (divider_of v) ≡ v
