-- Every register of 003's map, and the edges of the other kinds of cells: what it holds and what it reads as after 15 and then 0 are written, by hand from 003, 3.2, and 01, and computed from the definitions.
use Prim.Native.Nat.{ℕ}
use mathlib.Core.Bool.{Bool, true}
use mathlib.Core.List.{List, [], ◌∷◌}
use lib.Dec.{T, eqb}
use lib.ListN.{replicate, set}
use Rattle.lent.specs.Lent.{at, both}
use Rattle.sh_map.specs.Map.{kind_of, held_of, held_in, written_of, written_in, register_bits, register_written}
use Rattle.sh_periods.specs.Periods.{period_of, periods}
use Rattle.sh_halves.specs.Halves.{released_of, low_of}
use Rattle.sh_state.specs.Record.{fresh_of, set_pin_a, set_pin_b, set_pin_c, set_pin_d, set_counter, set_load, set_prescaler, set_base_prescaler, set_base_counter, set_watchdog, set_pending, set_frozen}
use Rattle.sh_state.specs.State.{State, state}
use Rattle.sh_cells.specs.Cells.{target_of, pointed_of, value_of, port_of, plain_in, plain_of, restarted_of}
use Rattle.sh_writes.specs.Writes.{write_of, noticed_of, kept_of, base_written_of, load_low_of, load_high_of, asked_of}

-- a row: the address, the bits that the cell can hold (3.2; - is none), what it holds before, and what it holds and reads as
-- after 15 is written and then after 0
pub record Row : Type 0 where
  pub address : ℕ
  pub bits : ℕ
  pub before : ℕ
  pub holds15 : ℕ
  pub reads15 : ℕ
  pub holds0 : ℕ
  pub reads0 : ℕ

pub row : ℕ → ℕ → ℕ → ℕ → ℕ → ℕ → ℕ → Row
row a b c h r h' r' =
    record { address = a; bits = b; before = c; holds15 = h; reads15 = r; holds0 = h'; reads0 = r' }

-- The machine: bonding BD0 1 and BD1 0, pins 0101 at each port, Timer0's counter $21 and load $43. Its memory: bits 0 and 1 of
-- each port are outputs, and $00F points at $020.
pub desk : ℕ → ℕ → State
desk a v =
    state
    (set_pin_a (set_pin_b (set_pin_c (set_pin_d (set_load (set_counter (fresh_of 2) 0x21) 0x43) 5) 5) 5) 5)
    (set (set (set (set (set (set (replicate 1024 0) 0x16 3) 0x17 3) 0x18 3) 0x19 3) 0x11 2) a v)

pub written : State → ℕ → ℕ → State
written s a v = write_of s (target_of s.memory a) v

pub reads : State → ℕ → ℕ
reads s a = value_of s (target_of s.memory a)

pub agrees : State → ℕ → ℕ → ℕ → Bool
agrees s a h r = both (eqb (at s.memory a) h) (eqb (reads s a) r)

pub right : Row → Bool
right r =
    let a = r.address in
    let s = written (desk a r.before) a 15 in
    both
    (eqb (held_of a) r.bits)
    (both (agrees s a r.holds15 r.reads15) (agrees (written s a 0) a r.holds0 r.reads0))

pub all : List Row → Bool
all [] = true
all (r ∷ rs) = both (right r) (all rs)

-- 003, 3.2, in its order
pub registers : List Row
registers =
    -- interrupt enable and request, Timer0 mode, base timer mode
    row 0x000 15 0 15 15 0 0
    ∷ row 0x001 15 0 15 15 0 0
    ∷ row 0x002 15 0 15 15 0 0
    ∷ row 0x003 15 0 15 15 0 0
    -- the load is written and the counter read: $004 leaves the counter at $21, $005 loads it
    ∷ row 0x004 0 0 0 1 0 1
    ∷ row 0x005 0 0 0 15 0 0
    -- reserved
    ∷ row 0x006 0 0 0 0 0 0
    -- LCDON, RLCD1, RLCD0
    ∷ row 0x007 7 0 7 7 0 0
    -- ports: the pins 01 at the two input bits, the latch at the two output bits
    ∷ row 0x008 15 0 15 7 0 4
    ∷ row 0x009 15 0 15 7 0 4
    ∷ row 0x00A 15 0 15 7 0 4
    ∷ row 0x00B 15 0 15 7 0 4
    -- PAM2, PAM1 are written; BD1, BD0 are the board's
    ∷ row 0x00C 15 1 13 13 1 1
    -- LVD and O/S, TBR
    ∷ row 0x00D 15 0 15 15 0 0
    ∷ row 0x00E 15 0 15 15 0 0
    -- INX is the cell pointed at
    ∷ row 0x00F 0 0 0 15 0 0
    -- DPL, DPM, DPH
    ∷ row 0x010 15 0 15 15 0 0
    ∷ row 0x011 7 0 7 7 0 0
    ∷ row 0x012 7 0 7 7 0 0
    -- pull resistors and edges; oscillator, whose bit 2 is none; LCD duty
    ∷ row 0x013 15 4 15 15 0 0
    ∷ row 0x014 11 0 11 11 0 0
    ∷ row 0x015 15 0 15 15 0 0
    -- port control
    ∷ row 0x016 15 0 15 15 0 0
    ∷ row 0x017 15 0 15 15 0 0
    ∷ row 0x018 15 0 15 15 0 0
    ∷ row 0x019 15 0 15 15 0 0
    -- ROM data read
    ∷ row 0x01A 15 0 15 15 0 0
    ∷ row 0x01B 15 0 15 15 0 0
    ∷ row 0x01C 15 0 15 15 0 0
    ∷ row 0x01D 15 0 15 15 0 0
    -- the watchdog's flag is read only: clear, and set
    ∷ row 0x01E 15 0 7 7 0 0
    ∷ row 0x01E 15 8 15 15 8 8
    -- reserved
    ∷ row 0x01F 0 0 0 0 0 0
    -- sound: written only
    ∷ row 0x370 15 0 15 0 0 0
    ∷ row 0x371 15 0 15 0 0 0
    ∷ row 0x372 15 0 15 0 0 0
    ∷ row 0x373 15 0 15 0 0 0
    ∷ row 0x374 15 0 15 0 0 0
    ∷ row 0x375 15 0 15 0 0 0
    ∷ row 0x376 15 0 15 0 0 0
    ∷ row 0x377 15 0 15 0 0 0
    ∷ []

-- 003, 3.1: the first and the last data, display and scan cells, and the unmapped ones around them
pub edges : List Row
edges =
    row 0x020 15 0 15 15 0 0
    ∷ row 0x16F 15 0 15 15 0 0
    ∷ row 0x170 0 0 0 0 0 0
    ∷ row 0x2FF 0 0 0 0 0 0
    ∷ row 0x300 15 0 15 15 0 0
    ∷ row 0x348 15 0 15 15 0 0
    ∷ row 0x349 0 0 0 0 0 0
    ∷ row 0x357 0 0 0 0 0 0
    ∷ row 0x358 15 0 15 15 0 0
    ∷ row 0x36D 15 0 15 15 0 0
    ∷ row 0x36E 0 0 0 0 0 0
    ∷ row 0x36F 0 0 0 0 0 0
    ∷ row 0x378 0 0 0 0 0 0
    ∷ row 0x3FF 0 0 0 0 0 0
    ∷ []

pub registers_agree : T (all registers)
unfolding row all right agrees written reads desk registers kind_of held_of held_in written_of written_in register_bits register_written period_of periods fresh_of set_pin_a set_pin_b set_pin_c set_pin_d set_counter set_load set_prescaler set_base_prescaler set_base_counter set_watchdog set_pending set_frozen released_of low_of target_of pointed_of value_of port_of plain_in plain_of write_of noticed_of kept_of base_written_of load_low_of load_high_of asked_of restarted_of
registers_agree = tt

pub edges_agree : T (all edges)
unfolding row all right agrees written reads desk edges kind_of held_of held_in written_of written_in register_bits register_written period_of periods fresh_of set_pin_a set_pin_b set_pin_c set_pin_d set_counter set_load set_prescaler set_base_prescaler set_base_counter set_watchdog set_pending set_frozen released_of low_of target_of pointed_of value_of port_of plain_in plain_of write_of noticed_of kept_of base_written_of load_low_of load_high_of asked_of restarted_of
edges_agree = tt
