-- What each event does (01, "Events"; 02, P1: $05).
use Rattle.std.specs.Prelude.{ℕ, ◌/◌, ◌%◌, false, List, eqb}
use Rattle.lent.specs.Lent.{pick, at}
use Rattle.sh_state.specs.Record.{set_pin_d}
use Rattle.sh_state.specs.State.{State, state}
use Rattle.sh_base_timer.specs.BaseTimer.{base_pulsed_of}
use Rattle.sh_watchdog.specs.Watchdog.{expires_of, counted_down_of}
use Rattle.sh_sound.specs.Sound.{sound_of}
use Rattle.sh_reset.specs.Reset.{reset_of}
use Rattle.sh_reset.specs.declared.reset.Column.TheVariants.{Pin, Watchdog}
use Rattle.sh_cycle.specs.Cycle.{Happened, happened, moved_of, cycle_of}
use Rattle.sh_events.specs.Ports.{port_a_of, port_b_of, port_c_of}

-- $01
unfoldable pub base_pulse_of : State → State
base_pulse_of s = moved_of s.memory (base_pulsed_of s.machine (at s.memory 0x03))

-- $02: a watchdog pulse of 1 ms; at 0 a watchdog reset
unfoldable pub watchdog_pulse_of : State → State
watchdog_pulse_of s = pick (expires_of s.machine) (reset_of Watchdog s) (state (counted_down_of s.machine) s.memory)

-- $10-$1F, $20-$2F, $30-$3F, $40-$4F: the pins of a port become the low nibble
unfoldable pub pins_of : State → ℕ → State
pins_of s e =
    pick (eqb (e / 16) 1) (port_a_of s (e % 16))
    (pick (eqb (e / 16) 2) (port_b_of s (e % 16))
    (pick (eqb (e / 16) 3) (port_c_of s (e % 16))
    (pick (eqb (e / 16) 4) (state (set_pin_d s.machine (e % 16)) s.memory) s)))

-- every event but the cycle; a byte that is no event leaves the state
unfoldable pub other_of : State → ℕ → State
other_of s e =
    pick (eqb e 0x01) (base_pulse_of s)
    (pick (eqb e 0x02) (watchdog_pulse_of s)
    (pick (eqb e 0x03) (reset_of Pin s)
    (pick (eqb e 0x05) (state (sound_of s.machine s.memory) s.memory) (pins_of s e))))

-- $00 is the cycle
unfoldable pub event_of : List ℕ → State → ℕ → Happened
event_of p s e = pick (eqb e 0x00) (cycle_of p s) (happened false (other_of s e))
