-- What the definitions say in each of their cases.
use mathlib.Core.Path.{◌≡◌}
use mathlib.Core.Bool.{Bool, true}
use Prim.Native.Nat.{ℕ, ◌-◌, ◌<◌, ◌≤◌}
use native.Mathlib.Omega.{arith}
use borrow.Author.Tests.{eq-eqb, ne_eqb}
use Rattle.sh_tones.specs.declared.Channel.{Channel}
use Rattle.sh_tones.specs.Tone.{channel, length_of, turned_of, fallen_of, clocked_of, holds_of, sounded_by}

-- a count falls to 0 from 1 or 0, else by one
pub falls_to_0 : (n o : ℕ) {t : ℕ} → n < 2 → t ≡ turned_of o → channel 0 t ≡ fallen_of n o
unfolding fallen_of
falls_to_0 n o h e = rw (eq-eqb (n - 1) 0 (omega arith), e)

pub falls_on : (n o : ℕ) → 2 ≤ n → channel (n - 1) o ≡ fallen_of n o
unfolding fallen_of
falls_on n o h = rw (ne_eqb (n - 1) 0 (λ e. omega arith))

-- a channel that runs, at a count of 0 and at any other
module _ (c : Channel) (length : ℕ) {r : Channel} where
  pub clock_at_0 : c.count ≡ 0 → r ≡ fallen_of length c.output → r ≡ clocked_of c length
  unfolding clocked_of
  clock_at_0 h e = rw (eq-eqb c.count 0 h, e)

  pub clock_above : (c.count ≡ 0 → ⊥) → r ≡ fallen_of c.count c.output → r ≡ clocked_of c length
  unfolding clocked_of
  clock_above h e = rw (ne_eqb c.count 0 h, e)

-- a channel that is enabled and has a value runs
pub runs : (c : Channel) (enabled : Bool) (v octave : ℕ) {r : Channel} → enabled ≡ true → (v ≡ 0 → ⊥) → r ≡ clocked_of c (length_of v octave) → r ≡ sounded_by c enabled v octave
unfolding sounded_by holds_of
runs c enabled v octave e h p = rw (e, ne_eqb v 0 h, p)
