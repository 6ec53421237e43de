-- A sound clock keeps what a record may hold of a channel: N is at most 127, so that a count of 0 becomes at most 1,016 and falls at once.
use mathlib.Core.Path.{◌≡◌}
use Prim.Native.Nat.{ℕ, ◌-◌, ◌/◌, ◌%◌, ◌≤◌}
use mathlib.Core.Bool.{Bool, true}
use native.Mathlib.Omega.{arith}
use lib.Dec.{leb, eqb}
use borrow.Author.Tests.{leb-true, le-leb}
use Rattle.lent.specs.Lent.{both}
use Rattle.lent.proofs.Laws.{both_true, test, by_test, by_eq}
use Rattle.tones.proofs.Rule.{divider_small}
use Rattle.sh_tones.specs.declared.Channel.{Channel}
use Rattle.sh_tones.specs.declared.Channels.{Channels}
use Rattle.sh_tones.specs.Tone.{value_of, length_of, turned_of, fallen_of, clocked_of, holds_of, sounded_by, sounded_of, channel1_of, channel2_of, channel_fits, silent_of, channels_fit}

-- what the rule of a channel says
pub record ChannelFit (c : Channel) : Type 0 where
  pub count : c.count ≤ 1015
  pub output : c.output ≤ 1

pub channel_fit : (c : Channel) → channel_fits c ≡ true → ChannelFit c
unfolding channel_fits
channel_fit c e =
    test (leb c.count 1015)
    (λ t. record { count = leb-true c.count 1015 t; output = leb-true c.output 1 (rw t at e) })
    (λ t. let z : ◌≡◌ {A = ℕ} 0 1 = cc (rw t at e) in absurd (omega arith))

pub channel_judged : (c : Channel) → ChannelFit c → channel_fits c ≡ true
unfolding channel_fits
channel_judged c f = rw (le-leb c.count 1015 f.count) (le-leb c.output 1 f.output)

length_bound : (v octave : ℕ) → length_of v octave ≤ 1016
unfolding length_of
length_bound v octave =
    let d = divider_small v in
    by_eq (λ n. n ≤ 1016) octave 1 _ _ (λ _. omega arith) (λ _. omega arith)

turned_bound : (o : ℕ) → turned_of o ≤ 1
unfolding turned_of
turned_bound o = by_eq (λ n. n ≤ 1) o 0 _ _ (λ _. omega arith) (λ _. omega arith)

fallen_fit : (n o : ℕ) → n ≤ 1016 → o ≤ 1 → ChannelFit (fallen_of n o)
unfolding fallen_of
fallen_fit n o h k =
    by_eq ChannelFit (n - 1) 0 _ _ (λ _. record { count = omega arith; output = turned_bound o }) (λ _. record { count = omega arith; output = k })

pub sounded_keeps : {c : Channel} → ChannelFit c → (enabled : Bool) (low high : ℕ) → ChannelFit (sounded_of c enabled low high)
unfolding sounded_of sounded_by clocked_of
sounded_keeps {c} f enabled low high =
    by_test ChannelFit (holds_of enabled (value_of low high)) _ _ (λ _. f)
    (λ _. fallen_fit _ _ (by_eq (λ n. n ≤ 1016) c.count 0 _ _ (λ _. length_bound _ _) (λ _. omega (arith, f.count))) f.output)

pub channel1_keeps : {c : Channel} → ChannelFit c → (enables low high : ℕ) → ChannelFit (channel1_of c enables low high)
unfolding channel1_of
channel1_keeps f enables low high = sounded_keeps f (eqb (enables % 2) 1) low high

pub channel2_keeps : {c : Channel} → ChannelFit c → (modes enables low high : ℕ) → ChannelFit (channel2_of c modes enables low high)
unfolding channel2_of
channel2_keeps f modes enables low high = sounded_keeps f (both (eqb (enables / 2 % 2) 1) (eqb (modes % 4) 0)) low high

-- both channels
pub record ChannelsFit (c : Channels) : Type 0 where
  pub first : ChannelFit c.first
  pub second : ChannelFit c.second

pub channels_fit_lem : (c : Channels) → channels_fit c ≡ true → ChannelsFit c
unfolding channels_fit
channels_fit_lem c e =
    let b = both_true _ _ e in
    record { first = channel_fit c.first b.0; second = channel_fit c.second b.1 }

pub channels_judged : (c : Channels) → ChannelsFit c → channels_fit c ≡ true
unfolding channels_fit
channels_judged c f = rw (channel_judged c.first f.first, channel_judged c.second f.second)

pub silent_fits : ChannelsFit silent_of
unfolding silent_of
silent_fits = record { first = record { count = omega arith; output = omega arith }; second = record { count = omega arith; output = omega arith } }
