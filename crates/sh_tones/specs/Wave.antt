-- What a channel that runs puts out over many sound clocks, while its registers stay.
use Rattle.std.specs.Prelude.{ℕ, zero, suc, ◌+◌, ◌-◌, ◌<◌, ◌≤◌, ◌≡◌, Bool, true}
use Rattle.sh_tones.specs.declared.Channel.{Channel}
use Rattle.sh_tones.specs.Tone.{channel, value_of, octave_of, length_of, turned_of, sounded_of}

-- n sound clocks
unfoldable pub clocks_of : ℕ → Channel → Bool → ℕ → ℕ → Channel
clocks_of zero c enabled low high = c
clocks_of (suc n) c enabled low high = sounded_of (clocks_of n c enabled low high) enabled low high

-- how many clocks lie between two turns of the output, by the two nibbles
abbrev pub length_by : ℕ → ℕ → ℕ
length_by low high = length_of (value_of low high) (octave_of high)

-- From a count of 0 the output turns over at the clock that the length says and at none before; two lengths are a whole wave (003, 12.2,
-- example 4: "112.5kHz/8/(2 x 108)" for N 108 with the octave bit).
pub record Wave (low high output : ℕ) (length : ℕ) : Type 0 where
  pub positive : 0 < length
  pub still : (n : ℕ) → 0 < n → n < length → clocks_of n (channel 0 output) true low high ≡ channel (length - n) output
  pub turn : clocks_of length (channel 0 output) true low high ≡ channel 0 (turned_of output)
  pub whole : output ≤ 1 → clocks_of (length + length) (channel 0 output) true low high ≡ channel 0 output
