-- Pins of ports A, B and C (003, 6; 01, "Events" and "Edges").
use Rattle.std.specs.Prelude.{ℕ, ◌*◌, ◌/◌, ◌%◌, List, eqb}
use Rattle.lent.specs.Lent.{pick, at}
use Rattle.sh_state.specs.Record.{set_pin_a, set_pin_b, set_pin_c}
use Rattle.sh_state.specs.State.{State, state}
use Rattle.sh_timers.specs.Request.{requested_of}
use Rattle.sh_timers.specs.Timer0.{fallen_of}
use Rattle.sh_edges.specs.Edges.{edges_of}
use Rattle.sh_cycle.specs.Cycle.{moved_of}

-- PORTA.0, by its control in $016: an edge in the direction of $013 bit 0 sets IRQX
unfoldable pub external_of : State → ℕ → ℕ
external_of s pins = edges_of s.machine.pina pins (at s.memory 0x16) (at s.memory 0x13 % 2) % 2 * 8

-- a falling edge of PORTA.0, 1 or 0
unfoldable pub falling_of : State → ℕ → ℕ
falling_of s pins = edges_of s.machine.pina pins (at s.memory 0x16) 0 % 2

-- port A: the external request, and Timer0 may count the falling edge
unfoldable pub port_a_of : State → ℕ → State
port_a_of s pins =
    moved_of (requested_of s.memory (external_of s pins))
    (fallen_of (set_pin_a s.machine pins) (at s.memory 0x02) (falling_of s pins))

-- any edge of port B or C sets IRQP
unfoldable pub port_request_of : ℕ → ℕ
port_request_of edges = pick (eqb edges 0) 0 1

-- the edges of port B or C, in the direction of $013 bit 1
unfoldable pub port_edges_of : List ℕ → ℕ → ℕ → ℕ → ℕ
port_edges_of l old pins control = port_request_of (edges_of old pins (at l control) (at l 0x13 / 2 % 2))

unfoldable pub port_b_of : State → ℕ → State
port_b_of s pins =
    state (set_pin_b s.machine pins) (requested_of s.memory (port_edges_of s.memory s.machine.pinb pins 0x17))

unfoldable pub port_c_of : State → ℕ → State
port_c_of s pins =
    state (set_pin_c s.machine pins) (requested_of s.memory (port_edges_of s.memory s.machine.pinc pins 0x18))
