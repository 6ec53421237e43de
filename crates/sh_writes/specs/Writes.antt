-- What a write leaves in the cell and in the record (01, "One instruction"; 02, P2).
use Rattle.std.specs.Prelude.{ℕ, ◌+◌, ◌-◌, ◌*◌, ◌/◌, ◌%◌, eqb, set}
use Rattle.std.specs.Int.Bits.{bit_and, bit_or}
use Rattle.lent.specs.Lent.{pick, at}
use Rattle.sh_state.specs.declared.machine.Machine.{Machine}
use Rattle.sh_map.specs.Map.{written_of}
use Rattle.sh_periods.specs.Periods.{base_on}
use Rattle.sh_state.specs.Record.{set_prescaler, set_counter, set_load, set_base_prescaler, set_base_counter, set_pending, set_frozen}
use Rattle.sh_halves.specs.Halves.{released_of}
use Rattle.sh_state.specs.State.{State, state}
use Rattle.sh_cells.specs.Cells.{restarted_of}

-- what the cell holds after v is written where it held old: the bits that a write stores are v's, the others stay
unfoldable pub kept_of : ℕ → ℕ → ℕ → ℕ
kept_of old a v = bit_or (bit_and old (255 - written_of a)) (bit_and v (written_of a))

-- $003: the base prescaler is cleared; a value that disables the base timer clears its counter too
unfoldable pub base_written_of : Machine → ℕ → Machine
base_written_of m v = pick (base_on v) (set_base_prescaler m 0) (set_base_counter (set_base_prescaler m 0) 0)

-- $004: the load's low nibble
unfoldable pub load_low_of : Machine → ℕ → Machine
load_low_of m v = set_load m (m.load / 16 * 16 + v % 16)

-- $005: the load's high nibble, and then the counter takes the load; "a write to $005 releases" the frozen nibble (02, P2)
unfoldable pub load_high_of : Machine → ℕ → Machine
load_high_of m v = set_frozen (set_counter (set_load m (v % 16 * 16 + m.load % 16)) (v % 16 * 16 + m.load % 16)) released_of

-- $01A: a read is pending at $01C, $01B and the nibble written
unfoldable pub asked_of : State → ℕ → Machine
asked_of s v =
    set_pending s.machine 1 (256 * (at s.memory 0x1C % 16) + 16 * (at s.memory 0x1B % 16) + v % 16)

-- what the record notices of v being written: $002 clears Timer0's prescaler, $01E restarts the watchdog, and the four above
unfoldable pub noticed_of : State → ℕ → ℕ → Machine
noticed_of s a v =
    pick (eqb a 0x02) (set_prescaler s.machine 0)
    (pick (eqb a 0x03) (base_written_of s.machine v)
    (pick (eqb a 0x04) (load_low_of s.machine v)
    (pick (eqb a 0x05) (load_high_of s.machine v)
    (pick (eqb a 0x1A) (asked_of s v) (pick (eqb a 0x1E) (restarted_of s.machine v) s.machine)))))

-- a write: the record that noticed it, and at most one cell changed
unfoldable pub write_of : State → ℕ → ℕ → State
write_of s a v = state (noticed_of s a v) (set s.memory a (kept_of (at s.memory a) a v))
