-- Resets: 003's table 3.3, its two columns, and the HOUSE lines of 01, "Reset".
use Rattle.std.specs.Prelude.{ℕ, ◌/◌, ◌%◌, List, [], ◌∷◌, eqb, replicate}
use Rattle.std.specs.Int.Bits.{bit_and, bit_or}
use Rattle.lent.specs.Lent.{pick, at, map_from}
use Rattle.sh_state.specs.declared.machine.Machine.{Machine}
use Rattle.sh_map.specs.declared.map.Kind.{Kind}
use Rattle.sh_map.specs.declared.map.Kind.TheVariants.{Register, Data, Display, Scan, Sound, Unmapped}
use Rattle.sh_map.specs.Map.{kind_of}
use Rattle.sh_state.specs.Record.{fresh_of, set_pin_a, set_pin_b, set_pin_c, set_pin_d}
use Rattle.sh_state.specs.State.{State, state}
use Rattle.sh_reset.specs.declared.reset.Column.{Column}
use Rattle.sh_reset.specs.declared.reset.Column.TheVariants.{Pin, Watchdog}

-- table 3.3, the bits that stay (u), $000 to $01F: none on a pin reset
unfoldable pub register_stays : Column → List ℕ
register_stays Pin = replicate 32 0
register_stays Watchdog =
    0 ∷ 0 ∷ 15 ∷ 15 ∷ 0 ∷ 0 ∷ 0 ∷ 7
    ∷ 0 ∷ 0 ∷ 0 ∷ 0 ∷ 12 ∷ 15 ∷ 15 ∷ 15
    ∷ 15 ∷ 7 ∷ 7 ∷ 7 ∷ 9 ∷ 15 ∷ 0 ∷ 0
    ∷ 0 ∷ 0 ∷ 15 ∷ 15 ∷ 15 ∷ 15 ∷ 0 ∷ 0 ∷ []

-- the same for $370 to $377, by the last three bits of the address
unfoldable pub sound_stays : Column → List ℕ
sound_stays Pin = replicate 8 0
sound_stays Watchdog = 15 ∷ 15 ∷ 15 ∷ 15 ∷ 15 ∷ 15 ∷ 15 ∷ 12 ∷ []

-- the bits that stay at an address; data, display and scan cells stay whole (HOUSE), and where nothing is mapped nothing moves
unfoldable pub stays_in : Kind → Column → ℕ → ℕ
stays_in Register column a = at (register_stays column) a
stays_in Data column a = 15
stays_in Display column a = 15
stays_in Scan column a = 15
stays_in Sound column a = at (sound_stays column) (a % 8)
stays_in Unmapped column a = 15

-- table 3.3, the bits that become 1: $013 0100 on a pin reset, $01E 1000 on a watchdog reset
unfoldable pub rises_of : Column → ℕ → ℕ
rises_of Pin a = pick (eqb a 0x13) 4 0
rises_of Watchdog a = pick (eqb a 0x1E) 8 0

-- and the bonding bits of $00C, which are as the board has them
unfoldable pub sets_of : Column → ℕ → ℕ → ℕ
sets_of column options a = pick (eqb a 0x0C) (options / 2 % 4) (rises_of column a)

-- what a cell holds after a reset
unfoldable pub reset_cell_of : Column → ℕ → ℕ → ℕ → ℕ
reset_cell_of column options a v = bit_or (bit_and v (stays_in (kind_of a) column a)) (sets_of column options a)

unfoldable pub reset_memory_of : Column → ℕ → List ℕ → List ℕ
reset_memory_of column options l = map_from (reset_cell_of column options) l 0

-- a record with the pins of another
unfoldable pub pins_of : Machine → Machine → Machine
pins_of m pins = set_pin_a (set_pin_b (set_pin_c (set_pin_d m pins.pind) pins.pinc) pins.pinb) pins.pina

-- HOUSE, and 02, of the tone channels (P1) and the frozen nibble (P2): all 0, running, watchdog at its period, which is 4,096 as both columns leave bits 2-0 of $01E at 0; options and pins stay
unfoldable pub reset_record_of : Machine → Machine
reset_record_of m = pins_of (fresh_of m.options) m

unfoldable pub reset_of : Column → State → State
reset_of column s = state (reset_record_of s.machine) (reset_memory_of column s.machine.options s.memory)
