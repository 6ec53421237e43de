-- Each event keeps a well-formed machine well formed, whatever the program and whatever the byte.
use Rattle.std.specs.Prelude.{Ok}
use mathlib.Core.Path.{◌≡◌}
use mathlib.Core.List.{List}
use Prim.Native.Nat.{ℕ, ◌/◌, ◌%◌, ◌<◌}
use native.Mathlib.Omega.{arith}
use lib.Seq.{get_or-set_other}
use Rattle.lent.specs.Lent.{at}
use Rattle.lent.proofs.Laws.{by_choice, by_eq}
use Rattle.sh_rules.specs.Judge.{state_judged}
use Rattle.sh_state.specs.Record.{set_pin_a, set_pin_b, set_pin_c, set_pin_d}
use Rattle.sh_state.specs.State.{State, state}
use Rattle.sh_rules.proofs.Fits.{Fit, fit_of, judged_of, pin_a_fits, pin_b_fits, pin_c_fits, pin_d_fits}
use Rattle.sh_reset.specs.declared.reset.Column.TheVariants.{Pin, Watchdog}
use Rattle.sh_timers.specs.Request.{requested_of}
use Rattle.sh_watchdog.specs.Watchdog.{expires_of}
use Rattle.sh_timers.proofs.Kept.{requested_keeps, fallen_keeps}
use Rattle.sh_base_timer.proofs.Kept.{base_pulsed_keeps}
use Rattle.sh_watchdog.proofs.Kept.{counted_down_keeps}
use Rattle.sh_reset.proofs.Kept.{reset_keeps}
use Rattle.sh_sound.proofs.Kept.{sound_keeps}
use Rattle.sh_cycle.specs.Cycle.{Happened}
use Rattle.sh_events.specs.Ports.{external_of, falling_of, port_a_of, port_request_of, port_edges_of, port_b_of, port_c_of}
use Rattle.sh_events.specs.Event.{base_pulse_of, watchdog_pulse_of, pins_of, other_of, event_of}
use Rattle.sh_cycle.proofs.Keeps.{moved_keeps, cycle_keeps}

-- the bits that pins request
external_small : (s : State) (pins : ℕ) → external_of s pins < 16
unfolding external_of
external_small s pins = omega arith

port_request_small : (edges : ℕ) → port_request_of edges < 16
unfolding port_request_of
port_request_small edges = by_eq (λ v. v < 16) edges 0 _ _ (λ e. omega arith) (λ n. omega arith)

port_edges_small : (l : List ℕ) (old pins control : ℕ) → port_edges_of l old pins control < 16
unfolding port_edges_of
port_edges_small l old pins control = port_request_small _

-- a request leaves Timer0's mode
mode_stays : (l : List ℕ) (bits : ℕ) → at (requested_of l bits) 0x02 ≡ at l 0x02
unfolding requested_of
mode_stays l bits = get_or-set_other l 0x01 0x02 _ 0 (omega arith)

module _ {s : State} (f : Fit s) where
  base_pulse_keeps : Fit (base_pulse_of s)
  unfolding base_pulse_of
  base_pulse_keeps = moved_keeps (base_pulsed_keeps f)

  watchdog_pulse_keeps : Fit (watchdog_pulse_of s)
  unfolding watchdog_pulse_of
  watchdog_pulse_keeps = by_choice Fit (expires_of s.machine) _ _ (reset_keeps Watchdog f) (counted_down_keeps f)

  pin_a_keeps : (v : ℕ) → v < 16 → Fit (state (set_pin_a s.machine v) s.memory)
  pin_a_keeps v h = record { memory = f.memory; machine = pin_a_fits f.machine v h }

  pin_b_keeps : (v : ℕ) → v < 16 → Fit (state (set_pin_b s.machine v) s.memory)
  pin_b_keeps v h = record { memory = f.memory; machine = pin_b_fits f.machine v h }

  pin_c_keeps : (v : ℕ) → v < 16 → Fit (state (set_pin_c s.machine v) s.memory)
  pin_c_keeps v h = record { memory = f.memory; machine = pin_c_fits f.machine v h }

  pin_d_keeps : (v : ℕ) → v < 16 → Fit (state (set_pin_d s.machine v) s.memory)
  pin_d_keeps v h = record { memory = f.memory; machine = pin_d_fits f.machine v h }

  port_a_keeps : (pins : ℕ) → pins < 16 → Fit (port_a_of s pins)
  unfolding port_a_of
  port_a_keeps pins h =
      let l = s.memory in
      let g = requested_keeps (pin_a_keeps pins h) (external_of s pins) (external_small s pins) in
      moved_keeps (rw (mode_stays l (external_of s pins)) at (fallen_keeps g (falling_of s pins)))

  port_b_keeps : (pins : ℕ) → pins < 16 → Fit (port_b_of s pins)
  unfolding port_b_of
  port_b_keeps pins h = requested_keeps (pin_b_keeps pins h) _ (port_edges_small _ _ _ _)

  port_c_keeps : (pins : ℕ) → pins < 16 → Fit (port_c_of s pins)
  unfolding port_c_of
  port_c_keeps pins h = requested_keeps (pin_c_keeps pins h) _ (port_edges_small _ _ _ _)

  pins_keep : (e : ℕ) → Fit (pins_of s e)
  unfolding pins_of
  pins_keep e =
      let h : e % 16 < 16 = omega arith in
      by_eq Fit (e / 16) 1 _ _ (λ t. port_a_keeps (e % 16) h)
      (λ t. by_eq Fit (e / 16) 2 _ _ (λ t. port_b_keeps (e % 16) h)
      (λ t. by_eq Fit (e / 16) 3 _ _ (λ t. port_c_keeps (e % 16) h)
      (λ t. by_eq Fit (e / 16) 4 _ _ (λ t. pin_d_keeps (e % 16) h) (λ t. f))))

  other_keeps : (e : ℕ) → Fit (other_of s e)
  unfolding other_of
  other_keeps e =
      by_eq Fit e 0x01 _ _ (λ t. base_pulse_keeps)
      (λ t. by_eq Fit e 0x02 _ _ (λ t. watchdog_pulse_keeps)
      (λ t. by_eq Fit e 0x03 _ _ (λ t. reset_keeps Pin f) (λ t. by_eq Fit e 0x05 _ _ (λ t. sound_keeps f) (λ t. pins_keep e))))

pub event_keeps : (p : List ℕ) (s : State) (e : ℕ) → Fit s → Fit (event_of p s e).after
unfolding event_of
event_keeps p s e f = by_eq (λ (h : Happened). Fit h.after) e 0x00 _ _ (λ t. cycle_keeps p f) (λ t. other_keeps f e)

-- the same in the words by which a call turns a machine down
pub event_judged : (p : List ℕ) (s : State) (e : ℕ) → state_judged s ≡ Ok tt → state_judged (event_of p s e).after ≡ Ok tt
event_judged p s e h = judged_of (event_keeps p s e (fit_of s h))
