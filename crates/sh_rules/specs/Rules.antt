-- The rules of a memory and of a record beside it (01, "What is lent"; 02, P1: the tone channels; 02, P2: the frozen nibble): a part for each.
use Rattle.std.specs.Prelude.{ℕ, ◌/◌, ◌%◌, Bool, false, List, ltb, leb, eqb, length, Option}
use Rattle.std.specs.Int.Bits.{bit_and}
use Rattle.lent.specs.Lent.{pick, both, at, fails_from}
use Rattle.sh_state.specs.declared.machine.Machine.{Machine}
use Rattle.sh_map.specs.Map.{held_of}
use Rattle.sh_tones.specs.Tone.{channels_fit}
use Rattle.sh_halves.specs.Halves.{frozen_fits}
use Rattle.sh_periods.specs.Periods.{ratio_of, base_ratio_of, base_on, period_of}
use Rattle.sh_state.specs.State.{State}

-- a byte that a cell may hold: no bit but those that the cell holds
unfoldable pub cell_fits : ℕ → ℕ → Bool
cell_fits a v = eqb (bit_and v (held_of a)) v

-- the lowest address, from a on, whose byte breaks the rule
abbrev pub broken_from : List ℕ → ℕ → Option ℕ
broken_from l a = fails_from cell_fits l a

-- PC 0-4095, AC a nibble, CY a bit, mode 0, 1 or 2
unfoldable pub cpu_fits : Machine → Bool
cpu_fits m = pick (ltb m.pc 4096) (pick (ltb m.ac 16) (pick (ltb m.cy 2) (ltb m.mode 3) false) false) false

-- eight stack entries of 13 bits
unfoldable pub stack_fits : List ℕ → Bool
stack_fits s =
    pick (ltb (at s 0) 8192)
    (pick (ltb (at s 1) 8192)
    (pick (ltb (at s 2) 8192)
    (pick (ltb (at s 3) 8192)
    (pick (ltb (at s 4) 8192)
    (pick (ltb (at s 5) 8192) (pick (ltb (at s 6) 8192) (pick (ltb (at s 7) 8192) (eqb (length s) 8) false) false) false) false) false) false) false) false

-- Timer0's prescaler lies below its present ratio, which is 1 for pin counting
unfoldable pub timer0_fits : Machine → ℕ → Bool
timer0_fits m mode = ltb m.prescaler (ratio_of mode)

-- the base prescaler lies below its present ratio; a disabled base timer holds 0, 0
unfoldable pub base_fits : Machine → ℕ → Bool
base_fits m mode =
    pick (base_on mode)
    (ltb m.baseprescaler (base_ratio_of mode))
    (pick (eqb m.baseprescaler 0) (eqb m.basecounter 0) false)

-- the watchdog count is 1 up to its period
unfoldable pub watchdog_fits : Machine → ℕ → Bool
watchdog_fits m control = pick (eqb m.watchdog 0) false (leb m.watchdog (period_of control))

-- Timer0's counter and load and the base counter are bytes
unfoldable pub bytes_fit : Machine → Bool
bytes_fit m = pick (ltb m.counter 256) (pick (ltb m.load 256) (ltb m.basecounter 256) false) false

-- the pins of the four ports are nibbles
unfoldable pub pins_fit : Machine → Bool
pins_fit m = pick (ltb m.pina 16) (pick (ltb m.pinb 16) (pick (ltb m.pinc 16) (ltb m.pind 16) false) false) false

-- options 0-7, and bits 0-1 of $00C equal the bonding options, bits 1-2 of the options
unfoldable pub options_fit : Machine → ℕ → Bool
options_fit m bonding = pick (ltb m.options 8) (eqb (bonding % 4) (m.options / 2)) false

-- read pending 0 or 1, and its address, which is 0 when none is
unfoldable pub pending_fits : Machine → Bool
pending_fits m =
    pick (eqb m.pending 0) (eqb m.address 0) (pick (eqb m.pending 1) (ltb m.address 4096) false)

-- the rules that tie a field to the memory: $002, $003, $01E and $00C
unfoldable pub ties_fit : State → Bool
ties_fit s =
    both (timer0_fits s.machine (at s.memory 0x02))
    (both (base_fits s.machine (at s.memory 0x03))
    (both (watchdog_fits s.machine (at s.memory 0x1E)) (options_fit s.machine (at s.memory 0x0C))))

-- a record that fits its memory
unfoldable pub well_formed_of : State → Bool
well_formed_of s =
    both (both (cpu_fits s.machine) (stack_fits s.machine.stack))
    (both (both (bytes_fit s.machine) (pins_fit s.machine))
    (both (both (pending_fits s.machine) (both (channels_fit s.machine.channels) (frozen_fits s.machine.frozen))) (ties_fit s)))
