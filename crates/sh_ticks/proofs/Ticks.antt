-- Clocks of Timer0 that do not go past its counter's 255: their sum is what each of them does.
use mathlib.Core.Path.{◌≡◌, ◌∙◌, refl, ap}
use Prim.Native.Nat.{ℕ, ◌+◌, ◌-◌, ◌*◌, ◌/◌, ◌%◌, ◌<◌, ◌≤◌}
use native.Mathlib.Omega.{arith}
use native.Mathlib.Nat.{div-add-mod', div-lt_iff_lt-mul, suc-mul, mod-lt, mul-le-mul_right}
use lib.Arith.{digits_div, digits_mod, digits_lt}
use lib.Dec.{ltb, eqb}
use borrow.Author.Tests.{lt-ltb, eq-eqb, ne_eqb}
use Rattle.lent.proofs.Laws.{test, by_eq, by_lt}
use Rattle.sh_state.specs.declared.machine.Machine.{Machine}
use Rattle.sh_state.specs.Record.{set_pc, set_ac, set_cy, set_prescaler, set_counter}
use Rattle.sh_periods.specs.Periods.{ratio_of}
use Rattle.sh_rules.proofs.Fits.{ratio_positive}
use Rattle.sh_timers.specs.declared.request.Moved.{Moved}
use Rattle.sh_timers.specs.Request.{moved}
use Rattle.sh_timers.specs.Timer0.{reload_of, counted_of, prescaled_by, prescaled_of, clocked_of}
use Rattle.sh_timers.specs.Ticked.{time_set_of}
use Rattle.sh_core.specs.declared.Core.{Core}
use Rattle.sh_core.specs.Quick.{core_in}
use Rattle.sh_ticks.specs.Clock.{clocks_of, timed_of, room_of}

-- one more, within the prescaler's ratio r or at its end
module _ (t r : ℕ) (z : 0 < r) where
  within_div : t % r + 1 < r → (t + 1) / r ≡ t / r
  within_div h =
      let e : t + 1 ≡ t / r * r + (t % r + 1) = omega (arith, div-add-mod' t r) in
      ap (λ (k : ℕ). k / r) e ∙ digits_div (t / r) h

  within_mod : t % r + 1 < r → (t + 1) % r ≡ t % r + 1
  within_mod h =
      let e : t + 1 ≡ t / r * r + (t % r + 1) = omega (arith, div-add-mod' t r) in
      ap (λ (k : ℕ). k % r) e ∙ digits_mod (t / r) h

  round : r ≤ t % r + 1 → t + 1 ≡ (t / r + 1) * r + 0
  round h = omega (arith, div-add-mod' t r, suc-mul (t / r) r, mod-lt t z)

  round_div : r ≤ t % r + 1 → (t + 1) / r ≡ t / r + 1
  round_div h = ap (λ (k : ℕ). k / r) (round h) ∙ digits_div (t / r + 1) z

  round_mod : r ≤ t % r + 1 → (t + 1) % r ≡ 0
  round_mod h = ap (λ (k : ℕ). k % r) (round h) ∙ digits_mod (t / r + 1) z

  pub below_256 : t < 256 * r → t / r < 256
  below_256 h = (div-lt_iff_lt-mul {k = r} {x = t} {y = 256} z).1 h

-- a counter of eight bits times a ratio of sixteen
pub product_below : (q r : ℕ) → q < 256 → r < 0x10000 → q * r < 0x1000000
product_below q r h k = let b : q ≤ 255 = omega arith in omega (arith, mul-le-mul_right r b)

pub clocks_left : (q p r : ℕ) → q < 256 → p < r → q * r + p + 1 ≤ 256 * r
clocks_left q p r h k = omega (arith, digits_lt {q = q} {m = 256} {r = p} {c = r} h k)

module _ (m : Machine) (mode : ℕ) (s : mode % 8 ≡ 7 → ⊥) where
  -- the room is within the counter's 256 times the ratio
  room_within : (n : ℕ) → n < room_of m mode → clocks_of m (ratio_of mode) n + 1 < 256 * ratio_of mode
  unfolding room_of clocks_of
  room_within n =
      let Within : ℕ → Type 0 = λ v. n < v → clocks_of m (ratio_of mode) n + 1 < 256 * ratio_of mode in
      by_eq Within (mode % 8) 7 _ _ (λ e. absurd (s e))
      (λ _. by_lt Within m.prescaler (ratio_of mode) _ _ (λ k h. omega arith) (λ k h. absurd (omega arith)))

  -- where there is room, the prescaler is within its ratio
  pub prescaler_within : 0 < room_of m mode → m.prescaler < ratio_of mode
  unfolding room_of
  prescaler_within =
      let Within : ℕ → Type 0 = λ v. 0 < v → m.prescaler < ratio_of mode in
      by_eq Within (mode % 8) 7 _ _ (λ e. absurd (s e))
      (λ _. by_lt Within m.prescaler (ratio_of mode) _ _ (λ k h. k) (λ k h. absurd (omega arith)))

  pub clocks_below : (n : ℕ) → 0 < room_of m mode → n ≤ room_of m mode → clocks_of m (ratio_of mode) n < 256 * ratio_of mode
  unfolding room_of clocks_of
  clocks_below n =
      let Within : ℕ → Type 0 = λ v. 0 < v → n ≤ v → clocks_of m (ratio_of mode) n < 256 * ratio_of mode in
      by_eq Within (mode % 8) 7 _ _ (λ e. absurd (s e))
      (λ _. by_lt Within m.prescaler (ratio_of mode) _ _ (λ k h j. omega arith) (λ k h j. absurd (omega arith)))

  -- Timer0 after t clocks in all
  after : ℕ → Machine
  after t = set_counter (set_prescaler m (t % ratio_of mode)) (t / ratio_of mode)

  counted_on : (t : ℕ) → t + 1 < 256 * ratio_of mode → ratio_of mode ≤ t % ratio_of mode + 1 → counted_of (set_prescaler (after t) 0) mode ≡ moved (after (t + 1)) 0
  unfolding after counted_of set_prescaler set_counter
  counted_on t h k =
      let z = ratio_positive mode in
      let d = round_div t (ratio_of mode) z k in
      rw (lt-ltb (t / ratio_of mode) 255 (omega (arith, below_256 (t + 1) (ratio_of mode) z h, d)), d, round_mod t (ratio_of mode) z k)

  ticked : (t : ℕ) → t + 1 < 256 * ratio_of mode → prescaled_of (after t) mode ≡ moved (after (t + 1)) 0
  unfolding after prescaled_of prescaled_by set_prescaler set_counter
  ticked t h =
      by_lt (λ (v : Moved). v ≡ moved (after (t + 1)) 0) (t % ratio_of mode + 1) (ratio_of mode) _ _
      (λ k. rw (within_div t (ratio_of mode) (ratio_positive mode) k, within_mod t (ratio_of mode) (ratio_positive mode) k)) (λ k. counted_on t h k)

module _ (m : Machine) (mode : ℕ) where
  pub timed_none : 0 < room_of m mode → timed_of m mode 0 ≡ m
  unfolding timed_of clocks_of set_counter set_prescaler
  timed_none h =
      by_eq (λ (k : Machine). k ≡ m) (mode % 8) 7 _ _ (λ e. refl)
      (λ s.
      let q = prescaler_within m mode s h in
      let e : m.counter * ratio_of mode + m.prescaler + 0 ≡ m.counter * ratio_of mode + m.prescaler = omega arith in
      rw (e, digits_div m.counter q, digits_mod m.counter q))

  -- clocks that the prescaler takes leave the counter
  pub timed_within : (mode % 8 ≡ 7 → ⊥) → (n : ℕ) → m.prescaler + n < ratio_of mode → timed_of m mode n ≡ time_set_of m (m.prescaler + n) m.counter
  unfolding timed_of clocks_of time_set_of
  timed_within s n h =
      let e : m.counter * ratio_of mode + m.prescaler + n ≡ m.counter * ratio_of mode + (m.prescaler + n) = omega arith in
      rw (ne_eqb (mode % 8) 7 s, e, digits_div m.counter h, digits_mod m.counter h)

  one_more : (n : ℕ) → clocks_of m (ratio_of mode) n + 1 ≡ clocks_of m (ratio_of mode) (n + 1)
  unfolding clocks_of
  one_more n = omega arith

  pub timed_more : (n : ℕ) → n < room_of m mode → clocked_of (timed_of m mode n) mode ≡ moved (timed_of m mode (n + 1)) 0
  unfolding timed_of clocked_of after
  timed_more n h =
      by_eq (λ (k : Machine). clocked_of k mode ≡ moved (timed_of m mode (n + 1)) 0) (mode % 8) 7 _ _
      (λ e. rw (eq-eqb (mode % 8) 7 e))
      (λ s. rw (ne_eqb (mode % 8) 7 s) (ticked m mode s (clocks_of m (ratio_of mode) n) (room_within m mode s n h) ∙ ap (λ (t : ℕ). moved (after m mode s t) 0) (one_more n)))

-- a clock does not touch PC, AC and CY, nor does it ask what they are
module _ (m : Machine) (c : Core) (mode : ℕ) where
  counted_core : counted_of (core_in m c) mode ≡ moved (core_in (counted_of m mode).machine c) (counted_of m mode).requests
  unfolding counted_of reload_of core_in set_pc set_cy set_ac set_counter
  counted_core = test (ltb m.counter 255) (λ b. rw b) (λ b. rw b)

module _ (m : Machine) (c : Core) (mode : ℕ) where
  pub clocked_core : clocked_of (core_in m c) mode ≡ moved (core_in (clocked_of m mode).machine c) (clocked_of m mode).requests
  unfolding clocked_of prescaled_of prescaled_by core_in set_pc set_cy set_ac set_prescaler
  clocked_core =
      test (eqb (mode % 8) 7) (λ b. rw b)
      (λ b. rw b (test (ltb (m.prescaler + 1) (ratio_of mode)) (λ k. rw k) (λ k. rw k (counted_core (set_prescaler m 0) c mode))))
