-- What leaves every data, display and scan cell as it is: each event but the cycle, and each cycle that executes no instruction.
use mathlib.Core.Path.{◌≡◌, ◌∙◌, refl}
use mathlib.Core.Bool.{true}
use mathlib.Core.List.{List}
use Prim.Native.Nat.{ℕ, ◌/◌, ◌%◌, ◌≤◌}
use lib.Dec.{eqb}
use borrow.Author.Tests.{eqb-true}
use Rattle.lent.specs.Lent.{at}
use Rattle.lent.proofs.Laws.{test, by_test, by_eq, never}
use Rattle.sh_map.specs.Map.{askable_of}
use Rattle.sh_state.specs.State.{State, state}
use Rattle.sh_rules.proofs.Fits.{Fit}
use Rattle.sh_reset.specs.declared.reset.Column.TheVariants.{Pin, Watchdog}
use Rattle.sh_reset.proofs.Leaves.{reset_leaves}
use Rattle.sh_watchdog.specs.Watchdog.{expires_of}
use Rattle.sh_interrupts.specs.Interrupt.{due_of, awake_of}
use Rattle.sh_interrupts.proofs.Leaves.{interrupted_leaves}
use Rattle.sh_cycle.specs.Cycle.{Happened, woken_of, interrupt_cycle_of, awake_cycle_of, asleep_cycle_of, cycle_due_of, cycle_of}
use Rattle.sh_events.specs.Ports.{port_a_of, port_b_of, port_c_of}
use Rattle.sh_events.specs.Event.{base_pulse_of, watchdog_pulse_of, pins_of, other_of, event_of}
use Rattle.writers.proofs.Cell.{past_registers}
use Rattle.writers.proofs.Step.{requested_stays, finished_stays}

-- with no interrupt due, only a running machine is awake
awake_runs : (mode due : ℕ) → awake_of mode due ≡ true → due ≡ 0 → mode ≡ 0
unfolding awake_of
awake_runs mode due a e =
    test (eqb mode 0) (eqb-true mode 0)
    (λ f. test (eqb mode 1) (λ t. never (rw (e, f, t) at a)) (λ t. never (rw (e, f, t) at a)))

-- the state left has in the cell what this one has
abbrev pub Same : ℕ → State → State → Type 0
Same c s t = at t.memory c ≡ at s.memory c

module _ (c : ℕ) (h : askable_of c ≡ true) where
  low : 0x20 ≤ c
  low = (past_registers c h).0

  -- Pulses and pins: requests in $001. A sound clock leaves the memory.

  base_pulse_leaves : (s : State) → Same c s (base_pulse_of s)
  unfolding base_pulse_of
  base_pulse_leaves s = requested_stays c low s.memory _

  watchdog_pulse_leaves : (s : State) → Fit s → Same c s (watchdog_pulse_of s)
  unfolding watchdog_pulse_of
  watchdog_pulse_leaves s f = by_test (Same c s) (expires_of s.machine) _ _ (λ e. reset_leaves c h Watchdog s f) (λ e. refl)

  port_a_leaves : (s : State) (pins : ℕ) → Same c s (port_a_of s pins)
  unfolding port_a_of
  port_a_leaves s pins = requested_stays c low _ _ ∙ requested_stays c low s.memory _

  port_b_leaves : (s : State) (pins : ℕ) → Same c s (port_b_of s pins)
  unfolding port_b_of
  port_b_leaves s pins = requested_stays c low s.memory _

  port_c_leaves : (s : State) (pins : ℕ) → Same c s (port_c_of s pins)
  unfolding port_c_of
  port_c_leaves s pins = requested_stays c low s.memory _

  pins_leave : (s : State) (e : ℕ) → Same c s (pins_of s e)
  unfolding pins_of
  pins_leave s e =
      by_eq (Same c s) (e / 16) 1 _ _ (λ t. port_a_leaves s (e % 16))
      (λ t. by_eq (Same c s) (e / 16) 2 _ _ (λ t. port_b_leaves s (e % 16))
      (λ t. by_eq (Same c s) (e / 16) 3 _ _ (λ t. port_c_leaves s (e % 16))
      (λ t. by_eq (Same c s) (e / 16) 4 _ _ (λ t. refl) (λ t. refl))))

  other_leaves : (s : State) (e : ℕ) → Fit s → Same c s (other_of s e)
  unfolding other_of
  other_leaves s e f =
      by_eq (Same c s) e 0x01 _ _ (λ t. base_pulse_leaves s)
      (λ t. by_eq (Same c s) e 0x02 _ _ (λ t. watchdog_pulse_leaves s f)
      (λ t. by_eq (Same c s) e 0x03 _ _ (λ t. reset_leaves c h Pin s f)
      (λ t. by_eq (Same c s) e 0x05 _ _ (λ t. refl) (λ t. pins_leave s e))))

  -- every event but the cycle
  pub event_leaves : (p : List ℕ) (s : State) (e : ℕ) → Fit s → (e ≡ 0x00 → ⊥) → Same c s (event_of p s e).after
  unfolding event_of
  event_leaves p s e f n = by_eq (λ (r : Happened). Same c s r.after) e 0x00 _ _ (λ t. absurd (n t)) (λ t. other_leaves s e f)

  -- the cycle of an interrupt
  interrupt_leaves : (p : List ℕ) (s : State) (due : ℕ) → Same c s (interrupt_cycle_of p s due)
  unfolding interrupt_cycle_of
  interrupt_leaves p s due = finished_stays c low p s.machine _ ∙ interrupted_leaves c h (state (woken_of s.machine) s.memory) due

  asleep_leaves : (p : List ℕ) (s : State) → Same c s (asleep_cycle_of p s)
  unfolding asleep_cycle_of
  asleep_leaves p s = by_eq (Same c s) s.machine.mode 1 _ _ (λ e. finished_stays c low p s.machine _) (λ n. refl)

  -- every cycle but that of a machine that runs with nothing due
  pub cycle_leaves : (p : List ℕ) (s : State) → (s.machine.mode ≡ 0 → due_of s.memory ≡ 0 → ⊥) → Same c s (event_of p s 0x00).after
  unfolding event_of cycle_of cycle_due_of awake_cycle_of
  cycle_leaves p s n =
      let due = due_of s.memory in
      by_test (λ (r : Happened). Same c s r.after) (awake_of s.machine.mode due) _ _
      (λ a. by_eq (λ (r : Happened). Same c s r.after) due 0 _ _
      (λ q. absurd (n (awake_runs s.machine.mode due a q) q)) (λ q. interrupt_leaves p s due))
      (λ a. asleep_leaves p s)
