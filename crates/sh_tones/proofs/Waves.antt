-- A channel that runs turns its output over at the last clock of each length: the first clock sets the count, each makes it fall by one.
use mathlib.Core.Path.{◌≡◌, ◌∙◌, refl, ap, sym}
use mathlib.Core.Bool.{Bool, true}
use Prim.Native.Nat.{ℕ, zero, suc, ◌+◌, ◌-◌, ◌*◌, ◌<◌, ◌≤◌}
use native.Mathlib.Omega.{arith}
use Rattle.lent.proofs.Laws.{by_eq}
use Rattle.tones.specs.Tones.{printed, beside, divider_of}
use Rattle.tones.proofs.Rule.{divider_positive}
use Rattle.sh_tones.specs.declared.Channel.{Channel}
use Rattle.sh_tones.specs.Tone.{channel, value_of, octave_of, length_of, turned_of, fallen_of, clocked_of, holds_of, sounded_by, sounded_of}
use Rattle.sh_tones.specs.Wave.{clocks_of, Wave, length_by}
use Rattle.sh_tones.proofs.Laws.{falls_to_0, falls_on, clock_at_0, clock_above, runs}

turned_twice : (o : ℕ) → o ≤ 1 → turned_of (turned_of o) ≡ o
unfolding turned_of
turned_twice zero h = refl
turned_twice (suc zero) h = refl
turned_twice (suc (suc o)) h = absurd (omega arith)

length_positive : (v octave : ℕ) → 0 < v → v < 128 → 0 < length_of v octave
unfolding length_of
length_positive v octave h k =
    let d = divider_positive v h k in
    by_eq (λ n. 0 < n) octave 1 _ _ (λ _. omega arith) (λ _. omega arith)

module _ (low high : ℕ) (v : value_of low high ≡ 0 → ⊥) where
  positive : 0 < length_by low high
  unfolding value_of
  positive = length_positive _ _ (omega arith) (omega arith)

  -- one clock; from a count of 0 it sets the count, from another it does not
  one : (c : Channel) → clocked_of c (length_by low high) ≡ sounded_of c true low high
  unfolding sounded_of
  one c = runs c true (value_of low high) (octave_of high) refl v refl

  module _ (o : ℕ) where
    at_0 : fallen_of (length_by low high) o ≡ sounded_of (channel 0 o) true low high
    at_0 = clock_at_0 (channel 0 o) (length_by low high) refl refl ∙ one (channel 0 o)

    above : (n : ℕ) → 0 < n → fallen_of n o ≡ sounded_of (channel n o) true low high
    above n h = clock_above (channel n o) (length_by low high) (λ e. omega arith) refl ∙ one (channel n o)

    still : (n : ℕ) → 0 < n → n < length_by low high → clocks_of n (channel 0 o) true low high ≡ channel (length_by low high - n) o
    unfolding clocks_of
    still zero h k = absurd (omega arith)
    still (suc zero) h k = sym (falls_on (length_by low high) o (omega arith) ∙ at_0)
    still (suc (suc n)) h k =
        let z : length_by low high - suc (suc n) ≡ length_by low high - suc n - 1 = omega arith in
        rw z (ap (λ (c : Channel). sounded_of c true low high) (still (suc n) (omega arith) (omega arith)) ∙ sym (falls_on (length_by low high - suc n) o (omega arith) ∙ above (length_by low high - suc n) (omega arith)))

    -- the last clock of the length
    turn_after : (m : ℕ) → length_by low high ≡ suc m → clocks_of (suc m) (channel 0 o) true low high ≡ channel 0 (turned_of o)
    unfolding clocks_of
    turn_after zero e = sym (falls_to_0 (length_by low high) o (omega arith) refl ∙ at_0)
    turn_after (suc m) e =
        let z : length_by low high - suc m ≡ 1 = omega arith in
        ap (λ (c : Channel). sounded_of c true low high) (rw z at (still (suc m) (omega arith) (omega arith))) ∙ sym (falls_to_0 1 o (omega arith) refl ∙ above 1 (omega arith))

    turn : clocks_of (length_by low high) (channel 0 o) true low high ≡ channel 0 (turned_of o)
    turn =
        let p = positive in
        let z : length_by low high ≡ suc (length_by low high - 1) = omega arith in
        ap (λ (n : ℕ). clocks_of n (channel 0 o) true low high) z ∙ turn_after (length_by low high - 1) z

clocks_after : (m n : ℕ) (c : Channel) (low high : ℕ) → clocks_of (m + n) c true low high ≡ clocks_of m (clocks_of n c true low high) true low high
unfolding clocks_of
clocks_after zero n c low high = let z : 0 + n ≡ n = omega arith in rw z
clocks_after (suc m) n c low high =
    let z : suc m + n ≡ suc (m + n) = omega arith in
    rw z (ap (λ (c : Channel). sounded_of c true low high) (clocks_after m n c low high))

pub wave : (low high output : ℕ) → (value_of low high ≡ 0 → ⊥) → Wave low high output (length_by low high)
wave low high o v =
    let n = length_by low high in
    record {
      positive = positive low high v;
      still = still low high v o;
      turn = turn low high v o;
      whole =
          λ h.
          clocks_after n n (channel 0 o) low high
          ∙ (ap (λ (c : Channel). clocks_of n c true low high) (turn low high v o)
          ∙ (turn low high v (turned_of o) ∙ ap (λ (t : ℕ). channel 0 t) (turned_twice o h)));
    }

-- $40 without the octave bit, N 1: the output turns over at each clock, and the count that is kept stays 0
pub each_clock : (output : ℕ) → sounded_of (channel 0 output) true 0x0 0x4 ≡ channel 0 (turned_of output)
unfolding sounded_of sounded_by holds_of clocked_of fallen_of length_of value_of octave_of divider_of beside printed
each_clock output = refl

-- A channel that holds stays as it is, whatever the octave bit is where its value is 0.
pub held_still : (c : Channel) (enabled : Bool) (low high : ℕ) → holds_of enabled (value_of low high) ≡ true → sounded_of c enabled low high ≡ c
unfolding sounded_of sounded_by
held_still c enabled low high e = rw e

-- A count above 0 falls by one, whatever the value and the octave bit are by now.
pub counts_on : (c : Channel) (low high : ℕ) → (value_of low high ≡ 0 → ⊥) → 0 < c.count → sounded_of c true low high ≡ fallen_of c.count c.output
counts_on c low high v h = sym (clock_above c (length_by low high) (λ e. omega arith) refl ∙ one low high v c)

-- The octave bit makes a length eight times as long.
pub octave_eight : (v : ℕ) → (length_of v 0 ≡ divider_of v) × (length_of v 1 ≡ 8 * divider_of v)
unfolding length_of
octave_eight v = (refl, refl)
