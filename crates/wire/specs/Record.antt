-- The machine's record as 45 bytes: fields in 01's order ("What is lent"), then the tone channels (02, P1) and the frozen nibble (02, P2), high byte first.
use Rattle.std.specs.Prelude.{ℕ, ◌+◌, List, [], ◌∷◌, ◌++◌}
use Rattle.lent.specs.Lent.{at, pair_at_of}
use Rattle.sh_tones.specs.declared.Channel.{Channel}
use Rattle.sh_tones.specs.declared.Channels.{Channels}
use Rattle.sh_tones.specs.Tone.{channel, channels}
use Rattle.sh_halves.specs.declared.Frozen.{Frozen}
use Rattle.sh_halves.specs.Halves.{frozen}
use Rattle.sh_state.specs.declared.machine.Machine.{Machine}
use Rattle.wire.specs.Words.{two, pairs_of}

-- "remaining count (2 bytes) and output (1)"
unfoldable pub channel_at : List ℕ → ℕ → Channel
channel_at l i = channel (pair_at_of l i) (at l (i + 2))

-- "after the 37 bytes"
unfoldable pub channels_at : List ℕ → Channels
channels_at l = channels (channel_at l 37) (channel_at l 40)

-- "the frozen nibble and its mark, a byte each at its end"
unfoldable pub frozen_at : List ℕ → Frozen
frozen_at l = frozen (at l 43) (at l 44)

-- 2 bytes: PC, each stack entry, Timer0 prescaler, watchdog count, pending address; 1 byte: every other field
unfoldable pub record_of : List ℕ → Machine
record_of l =
    record {
      pc = pair_at_of l 0;
      ac = at l 2;
      cy = at l 3;
      mode = at l 4;
      stack = pair_at_of l 5 ∷ pair_at_of l 7 ∷ pair_at_of l 9 ∷ pair_at_of l 11 ∷ pair_at_of l 13 ∷ pair_at_of l 15 ∷ pair_at_of l 17 ∷ pair_at_of l 19 ∷ [];
      prescaler = pair_at_of l 21;
      counter = at l 23;
      load = at l 24;
      baseprescaler = at l 25;
      basecounter = at l 26;
      watchdog = pair_at_of l 27;
      pina = at l 29;
      pinb = at l 30;
      pinc = at l 31;
      pind = at l 32;
      options = at l 33;
      pending = at l 34;
      address = pair_at_of l 35;
      channels = channels_at l;
      frozen = frozen_at l;
    }

unfoldable pub bytes_of : Machine → List ℕ
bytes_of m =
    two m.pc (m.ac ∷ m.cy ∷ m.mode
    ∷ pairs_of m.stack 8
    ++ two m.prescaler (m.counter ∷ m.load ∷ m.baseprescaler ∷ m.basecounter
    ∷ two m.watchdog (m.pina ∷ m.pinb ∷ m.pinc ∷ m.pind ∷ m.options ∷ m.pending
    ∷ two m.address (two m.channels.first.count (m.channels.first.output
    ∷ two m.channels.second.count (m.channels.second.output ∷ m.frozen.nibble ∷ m.frozen.mark ∷ []))))))
