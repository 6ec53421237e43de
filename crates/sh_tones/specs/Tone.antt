-- The two tone channels (003, 12 and 3.2; 02, P1): what one sound clock makes of a channel's count and output, by the nibbles of its registers.
use Rattle.std.specs.Prelude.{ℕ, ◌+◌, ◌-◌, ◌*◌, ◌/◌, ◌%◌, Bool, true, false, leb, eqb}
use Rattle.lent.specs.Lent.{pick, both}
use Rattle.tones.specs.Tones.{divider_of}
use Rattle.sh_tones.specs.declared.Channel.{Channel}
use Rattle.sh_tones.specs.declared.Channels.{Channels}

abbrev pub channel : ℕ → ℕ → Channel
channel count output = record { count = count; output = output }

-- 003, 3.2: the seven bits C1.6 - C1.0 are bits 2-0 of $372 and the nibble $371; C2.14 - C2.8 are bits 2-0 of $376 and the nibble $375
unfoldable pub value_of : ℕ → ℕ → ℕ
value_of low high = 16 * (high % 8) + low % 16

-- OCT1, OCT2: bit 3 of $372, of $376
unfoldable pub octave_of : ℕ → ℕ
octave_of high = high / 8 % 2

-- what a count of 0 is set to: "to N, or to 8N with the octave bit"
unfoldable pub length_of : ℕ → ℕ → ℕ
length_of value octave = pick (eqb octave 1) (8 * divider_of value) (divider_of value)

-- an output that turns over
unfoldable pub turned_of : ℕ → ℕ
turned_of output = pick (eqb output 0) 1 0

-- "the count then falls by one, and at 0 the output turns over"
unfoldable pub fallen_of : ℕ → ℕ → Channel
fallen_of count output = pick (eqb (count - 1) 0) (channel 0 (turned_of output)) (channel (count - 1) output)

-- one sound clock of a channel that runs: "a count of 0 is first set"
unfoldable pub clocked_of : Channel → ℕ → Channel
clocked_of c length = fallen_of (pick (eqb c.count 0) length c.count) c.output

-- "A channel holds count and output still when disabled or when its value is 0"; where channel 2 "also" holds it counts as disabled
unfoldable pub holds_of : Bool → ℕ → Bool
holds_of enabled value = pick enabled (eqb value 0) true

-- one sound clock of a channel, by its value and its octave bit
unfoldable pub sounded_by : Channel → Bool → ℕ → ℕ → Channel
sounded_by c enabled value octave = pick (holds_of enabled value) c (clocked_of c (length_of value octave))

-- the same by its two nibbles
unfoldable pub sounded_of : Channel → Bool → ℕ → ℕ → Channel
sounded_of c enabled low high = sounded_by c enabled (value_of low high) (octave_of high)

-- channel 1: CH1EN is bit 0 of $377
unfoldable pub channel1_of : Channel → ℕ → ℕ → ℕ → Channel
channel1_of c enables low high = sounded_of c (eqb (enables % 2) 1) low high

-- channel 2: CH2EN is bit 1 of $377; it holds "also when C1M or C2M is 1", bits 0 and 1 of $370
unfoldable pub channel2_of : Channel → ℕ → ℕ → ℕ → ℕ → Channel
channel2_of c modes enables low high = sounded_of c (both (eqb (enables / 2 % 2) 1) (eqb (modes % 4) 0)) low high

abbrev pub channels : Channel → Channel → Channels
channels first second = record { first = first; second = second }

-- both "0 after any reset"
unfoldable pub silent_of : Channels
silent_of = channels (channel 0 0) (channel 0 0)

-- what a record may hold of a channel: 4 is answered "for a count above 1,015 or an output above 1"
unfoldable pub channel_fits : Channel → Bool
channel_fits c = pick (leb c.count 1015) (leb c.output 1) false

unfoldable pub channels_fit : Channels → Bool
channels_fit c = both (channel_fits c.first) (channel_fits c.second)
