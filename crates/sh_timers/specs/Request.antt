-- How a part asks for an interrupt: bits of $001 (003, 3.2 and 13.1: IRQX 8, IRQT0 4, IRQBT 2, IRQP 1).
use Rattle.std.specs.Prelude.{ℕ, List, set}
use Rattle.std.specs.Int.Bits.{bit_or}
use Rattle.lent.specs.Lent.{at}
use Rattle.sh_state.specs.declared.machine.Machine.{Machine}
use Rattle.sh_timers.specs.declared.request.Moved.{Moved}

-- a part's work: the record that it leaves, and the bits of $001 that it sets
abbrev pub moved : Machine → ℕ → Moved
moved m bits = record { machine = m; requests = bits }

-- $001 with some bits set
unfoldable pub requested_of : List ℕ → ℕ → List ℕ
requested_of l bits = set l 0x01 (bit_or (at l 0x01) bits)
