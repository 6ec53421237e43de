-- The machine's record: a setter for each field or pair of fields that moves, the stack, and the fresh machine (01, "What is lent").
use Rattle.std.specs.Prelude.{ℕ, ◌+◌, ◌*◌, ◌%◌, List, [], ◌∷◌, replicate}
use Rattle.lent.specs.Lent.{at}
use Rattle.sh_tones.specs.declared.Channels.{Channels}
use Rattle.sh_tones.specs.Tone.{silent_of}
use Rattle.sh_halves.specs.declared.Frozen.{Frozen}
use Rattle.sh_halves.specs.Halves.{released_of}
use Rattle.sh_state.specs.declared.machine.Machine.{Machine}

unfoldable pub set_pc : Machine → ℕ → Machine
set_pc m v =
    record { pc = v; ac = m.ac; cy = m.cy; mode = m.mode; stack = m.stack; prescaler = m.prescaler; counter = m.counter; load = m.load; baseprescaler = m.baseprescaler; basecounter = m.basecounter; watchdog = m.watchdog; pina = m.pina; pinb = m.pinb; pinc = m.pinc; pind = m.pind; options = m.options; pending = m.pending; address = m.address; channels = m.channels; frozen = m.frozen }

unfoldable pub set_ac : Machine → ℕ → Machine
set_ac m v =
    record { pc = m.pc; ac = v; cy = m.cy; mode = m.mode; stack = m.stack; prescaler = m.prescaler; counter = m.counter; load = m.load; baseprescaler = m.baseprescaler; basecounter = m.basecounter; watchdog = m.watchdog; pina = m.pina; pinb = m.pinb; pinc = m.pinc; pind = m.pind; options = m.options; pending = m.pending; address = m.address; channels = m.channels; frozen = m.frozen }

unfoldable pub set_cy : Machine → ℕ → Machine
set_cy m v =
    record { pc = m.pc; ac = m.ac; cy = v; mode = m.mode; stack = m.stack; prescaler = m.prescaler; counter = m.counter; load = m.load; baseprescaler = m.baseprescaler; basecounter = m.basecounter; watchdog = m.watchdog; pina = m.pina; pinb = m.pinb; pinc = m.pinc; pind = m.pind; options = m.options; pending = m.pending; address = m.address; channels = m.channels; frozen = m.frozen }

-- 0 running, 1 HALT, 2 STOP
unfoldable pub set_mode : Machine → ℕ → Machine
set_mode m v =
    record { pc = m.pc; ac = m.ac; cy = m.cy; mode = v; stack = m.stack; prescaler = m.prescaler; counter = m.counter; load = m.load; baseprescaler = m.baseprescaler; basecounter = m.basecounter; watchdog = m.watchdog; pina = m.pina; pinb = m.pinb; pinc = m.pinc; pind = m.pind; options = m.options; pending = m.pending; address = m.address; channels = m.channels; frozen = m.frozen }

unfoldable pub set_stack : Machine → List ℕ → Machine
set_stack m s =
    record { pc = m.pc; ac = m.ac; cy = m.cy; mode = m.mode; stack = s; prescaler = m.prescaler; counter = m.counter; load = m.load; baseprescaler = m.baseprescaler; basecounter = m.basecounter; watchdog = m.watchdog; pina = m.pina; pinb = m.pinb; pinc = m.pinc; pind = m.pind; options = m.options; pending = m.pending; address = m.address; channels = m.channels; frozen = m.frozen }

-- Timer0's prescaler
unfoldable pub set_prescaler : Machine → ℕ → Machine
set_prescaler m v =
    record { pc = m.pc; ac = m.ac; cy = m.cy; mode = m.mode; stack = m.stack; prescaler = v; counter = m.counter; load = m.load; baseprescaler = m.baseprescaler; basecounter = m.basecounter; watchdog = m.watchdog; pina = m.pina; pinb = m.pinb; pinc = m.pinc; pind = m.pind; options = m.options; pending = m.pending; address = m.address; channels = m.channels; frozen = m.frozen }

-- Timer0's counter
unfoldable pub set_counter : Machine → ℕ → Machine
set_counter m v =
    record { pc = m.pc; ac = m.ac; cy = m.cy; mode = m.mode; stack = m.stack; prescaler = m.prescaler; counter = v; load = m.load; baseprescaler = m.baseprescaler; basecounter = m.basecounter; watchdog = m.watchdog; pina = m.pina; pinb = m.pinb; pinc = m.pinc; pind = m.pind; options = m.options; pending = m.pending; address = m.address; channels = m.channels; frozen = m.frozen }

-- Timer0's load
unfoldable pub set_load : Machine → ℕ → Machine
set_load m v =
    record { pc = m.pc; ac = m.ac; cy = m.cy; mode = m.mode; stack = m.stack; prescaler = m.prescaler; counter = m.counter; load = v; baseprescaler = m.baseprescaler; basecounter = m.basecounter; watchdog = m.watchdog; pina = m.pina; pinb = m.pinb; pinc = m.pinc; pind = m.pind; options = m.options; pending = m.pending; address = m.address; channels = m.channels; frozen = m.frozen }

unfoldable pub set_base_prescaler : Machine → ℕ → Machine
set_base_prescaler m v =
    record { pc = m.pc; ac = m.ac; cy = m.cy; mode = m.mode; stack = m.stack; prescaler = m.prescaler; counter = m.counter; load = m.load; baseprescaler = v; basecounter = m.basecounter; watchdog = m.watchdog; pina = m.pina; pinb = m.pinb; pinc = m.pinc; pind = m.pind; options = m.options; pending = m.pending; address = m.address; channels = m.channels; frozen = m.frozen }

unfoldable pub set_base_counter : Machine → ℕ → Machine
set_base_counter m v =
    record { pc = m.pc; ac = m.ac; cy = m.cy; mode = m.mode; stack = m.stack; prescaler = m.prescaler; counter = m.counter; load = m.load; baseprescaler = m.baseprescaler; basecounter = v; watchdog = m.watchdog; pina = m.pina; pinb = m.pinb; pinc = m.pinc; pind = m.pind; options = m.options; pending = m.pending; address = m.address; channels = m.channels; frozen = m.frozen }

unfoldable pub set_watchdog : Machine → ℕ → Machine
set_watchdog m v =
    record { pc = m.pc; ac = m.ac; cy = m.cy; mode = m.mode; stack = m.stack; prescaler = m.prescaler; counter = m.counter; load = m.load; baseprescaler = m.baseprescaler; basecounter = m.basecounter; watchdog = v; pina = m.pina; pinb = m.pinb; pinc = m.pinc; pind = m.pind; options = m.options; pending = m.pending; address = m.address; channels = m.channels; frozen = m.frozen }

unfoldable pub set_pin_a : Machine → ℕ → Machine
set_pin_a m v =
    record { pc = m.pc; ac = m.ac; cy = m.cy; mode = m.mode; stack = m.stack; prescaler = m.prescaler; counter = m.counter; load = m.load; baseprescaler = m.baseprescaler; basecounter = m.basecounter; watchdog = m.watchdog; pina = v; pinb = m.pinb; pinc = m.pinc; pind = m.pind; options = m.options; pending = m.pending; address = m.address; channels = m.channels; frozen = m.frozen }

unfoldable pub set_pin_b : Machine → ℕ → Machine
set_pin_b m v =
    record { pc = m.pc; ac = m.ac; cy = m.cy; mode = m.mode; stack = m.stack; prescaler = m.prescaler; counter = m.counter; load = m.load; baseprescaler = m.baseprescaler; basecounter = m.basecounter; watchdog = m.watchdog; pina = m.pina; pinb = v; pinc = m.pinc; pind = m.pind; options = m.options; pending = m.pending; address = m.address; channels = m.channels; frozen = m.frozen }

unfoldable pub set_pin_c : Machine → ℕ → Machine
set_pin_c m v =
    record { pc = m.pc; ac = m.ac; cy = m.cy; mode = m.mode; stack = m.stack; prescaler = m.prescaler; counter = m.counter; load = m.load; baseprescaler = m.baseprescaler; basecounter = m.basecounter; watchdog = m.watchdog; pina = m.pina; pinb = m.pinb; pinc = v; pind = m.pind; options = m.options; pending = m.pending; address = m.address; channels = m.channels; frozen = m.frozen }

unfoldable pub set_pin_d : Machine → ℕ → Machine
set_pin_d m v =
    record { pc = m.pc; ac = m.ac; cy = m.cy; mode = m.mode; stack = m.stack; prescaler = m.prescaler; counter = m.counter; load = m.load; baseprescaler = m.baseprescaler; basecounter = m.basecounter; watchdog = m.watchdog; pina = m.pina; pinb = m.pinb; pinc = m.pinc; pind = v; options = m.options; pending = m.pending; address = m.address; channels = m.channels; frozen = m.frozen }

-- whether a ROM read is pending, and its address
unfoldable pub set_pending : Machine → ℕ → ℕ → Machine
set_pending m p a =
    record { pc = m.pc; ac = m.ac; cy = m.cy; mode = m.mode; stack = m.stack; prescaler = m.prescaler; counter = m.counter; load = m.load; baseprescaler = m.baseprescaler; basecounter = m.basecounter; watchdog = m.watchdog; pina = m.pina; pinb = m.pinb; pinc = m.pinc; pind = m.pind; options = m.options; pending = p; address = a; channels = m.channels; frozen = m.frozen }

-- the counts and outputs of the tone channels
unfoldable pub set_channels : Machine → Channels → Machine
set_channels m c =
    record { pc = m.pc; ac = m.ac; cy = m.cy; mode = m.mode; stack = m.stack; prescaler = m.prescaler; counter = m.counter; load = m.load; baseprescaler = m.baseprescaler; basecounter = m.basecounter; watchdog = m.watchdog; pina = m.pina; pinb = m.pinb; pinc = m.pinc; pind = m.pind; options = m.options; pending = m.pending; address = m.address; channels = c; frozen = m.frozen }

-- the frozen low nibble of Timer0's counter, and its mark
unfoldable pub set_frozen : Machine → Frozen → Machine
set_frozen m f =
    record { pc = m.pc; ac = m.ac; cy = m.cy; mode = m.mode; stack = m.stack; prescaler = m.prescaler; counter = m.counter; load = m.load; baseprescaler = m.baseprescaler; basecounter = m.basecounter; watchdog = m.watchdog; pina = m.pina; pinb = m.pinb; pinc = m.pinc; pind = m.pind; options = m.options; pending = m.pending; address = m.address; channels = m.channels; frozen = f }

-- a stack entry: CY times 4,096 plus PC
unfoldable pub entry_of : ℕ → ℕ → ℕ
entry_of cy pc = cy % 2 * 4096 + pc % 4096

-- v, and then the seven newest: the oldest of eight drops out
abbrev pub pushed : ℕ → List ℕ → List ℕ
pushed v s = v ∷ at s 0 ∷ at s 1 ∷ at s 2 ∷ at s 3 ∷ at s 4 ∷ at s 5 ∷ at s 6 ∷ []

-- the seven oldest, and then 0 at the bottom (HOUSE)
abbrev pub popped : List ℕ → List ℕ
popped s = at s 1 ∷ at s 2 ∷ at s 3 ∷ at s 4 ∷ at s 5 ∷ at s 6 ∷ at s 7 ∷ 0 ∷ []

unfoldable pub push_of : Machine → ℕ → Machine
push_of m v = set_stack m (pushed v m.stack)

unfoldable pub pop_of : Machine → Machine
pop_of m = set_stack m (popped m.stack)

-- the newest entry
unfoldable pub newest_of : Machine → ℕ
newest_of m = at m.stack 0

-- all 0 but the options, running, the watchdog at its longest period (01, "Reset": a fresh machine; 02, P1: the tone channels; 02, P2: the frozen nibble)
unfoldable pub fresh_of : ℕ → Machine
fresh_of o =
    record { pc = 0; ac = 0; cy = 0; mode = 0; stack = replicate 8 0; prescaler = 0; counter = 0; load = 0; baseprescaler = 0; basecounter = 0; watchdog = 4096; pina = 0; pinb = 0; pinc = 0; pind = 0; options = o; pending = 0; address = 0; channels = silent_of; frozen = released_of }
