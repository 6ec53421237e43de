-- What an address means, what a cell reads as, and what reading it does (01, "One instruction"; 02, P2).
use Rattle.std.specs.Prelude.{ℕ, ◌+◌, ◌-◌, ◌*◌, ◌/◌, List, eqb}
use Rattle.std.specs.Int.Bits.{bit_and, bit_or}
use Rattle.lent.specs.Lent.{pick, at}
use Rattle.sh_state.specs.declared.machine.Machine.{Machine}
use Rattle.sh_map.specs.declared.map.Kind.{Kind}
use Rattle.sh_map.specs.declared.map.Kind.TheVariants.{Register, Data, Display, Scan, Sound, Unmapped}
use Rattle.sh_map.specs.Map.{kind_of}
use Rattle.sh_periods.specs.Periods.{period_of}
use Rattle.sh_halves.specs.Halves.{released_of, frozen_of, low_of}
use Rattle.sh_state.specs.Record.{set_watchdog, set_frozen}
use Rattle.sh_state.specs.State.{State}
use Rattle.sh_cells.specs.declared.Reading.{Reading}

-- the cell that DPH ($012), DPM ($011) and DPL ($010) point at (003, 1.5)
unfoldable pub pointed_of : List ℕ → ℕ
pointed_of l = 128 * at l 0x12 + 16 * at l 0x11 + at l 0x10

-- the cell that an address means: $00F means the one pointed at
unfoldable pub target_of : List ℕ → ℕ → ℕ
target_of l a = pick (eqb a 0x0F) (pointed_of l) a

-- HOUSE: a port bit reads the pin where its control bit is 0, the latch where it is 1
unfoldable pub port_of : ℕ → ℕ → ℕ → ℕ
port_of pin latch control = bit_or (bit_and pin (255 - control)) (bit_and latch control)

-- what a cell that is no port and no counter reads as: what it holds, which is 0 at $006, $00F and $01F by the memory rules;
-- sound ($370-$377, written only) and unmapped cells read 0
unfoldable pub plain_in : Kind → List ℕ → ℕ → ℕ
plain_in Register l a = at l a
plain_in Data l a = at l a
plain_in Display l a = at l a
plain_in Scan l a = at l a
plain_in Sound l a = 0
plain_in Unmapped l a = 0

unfoldable pub plain_of : List ℕ → ℕ → ℕ
plain_of l a = plain_in (kind_of a) l a

-- what a cell reads as: $004 the counter's low nibble, frozen or live, $005 its high one (02, P2), $008-$00B the ports with their control in $016-$019
unfoldable pub value_of : State → ℕ → ℕ
value_of s a =
    pick (eqb a 0x04) (low_of s.machine.frozen s.machine.counter)
    (pick (eqb a 0x05) (s.machine.counter / 16)
    (pick (eqb a 0x08) (port_of s.machine.pina (at s.memory 0x08) (at s.memory 0x16))
    (pick (eqb a 0x09) (port_of s.machine.pinb (at s.memory 0x09) (at s.memory 0x17))
    (pick (eqb a 0x0A) (port_of s.machine.pinc (at s.memory 0x0A) (at s.memory 0x18))
    (pick (eqb a 0x0B) (port_of s.machine.pind (at s.memory 0x0B) (at s.memory 0x19)) (plain_of s.memory a))))))

-- the watchdog starts anew at the period that its control chooses
unfoldable pub restarted_of : Machine → ℕ → Machine
restarted_of m control = set_watchdog m (period_of control)

-- what reading a cell does to the record: $004 releases the frozen nibble, $005 freezes the one that stands (02, P2), $01E restarts the watchdog
unfoldable pub seen_of : State → ℕ → Machine
seen_of s a =
    pick (eqb a 0x04) (set_frozen s.machine released_of)
    (pick (eqb a 0x05) (set_frozen s.machine (frozen_of s.machine.counter))
    (pick (eqb a 0x1E) (restarted_of s.machine (at s.memory 0x1E)) s.machine))

-- a read: the value, and the record after it
unfoldable pub read_of : State → ℕ → Reading
read_of s a = record { value = value_of s a; machine = seen_of s a }
