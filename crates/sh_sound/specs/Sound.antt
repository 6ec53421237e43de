-- One sound clock of the machine (02, P1: "A new event $05 is one sound clock, idle in STOP").
use Rattle.std.specs.Prelude.{ℕ, List, eqb}
use Rattle.lent.specs.Lent.{pick, at}
use Rattle.sh_tones.specs.declared.Channels.{Channels}
use Rattle.sh_tones.specs.Tone.{channels, channel1_of, channel2_of}
use Rattle.sh_state.specs.declared.machine.Machine.{Machine}
use Rattle.sh_state.specs.Record.{set_channels}

-- both channels "by the registers as they stand": $370 the modes, $371 and $372 channel 1, $375 and $376 channel 2, $377 the enables (003, 3.2)
unfoldable pub channels_of : Channels → List ℕ → Channels
channels_of c l =
    channels (channel1_of c.first (at l 0x377) (at l 0x371) (at l 0x372))
    (channel2_of c.second (at l 0x370) (at l 0x377) (at l 0x375) (at l 0x376))

unfoldable pub sound_of : Machine → List ℕ → Machine
sound_of m l = pick (eqb m.mode 2) m (set_channels m (channels_of m.channels l))
