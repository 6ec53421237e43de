-- A cycle keeps a well-formed machine well formed, whatever the program.
use Rattle.std.specs.Prelude.{Err, Ok, Result}
use mathlib.Core.Path.{◌≡◌, refl}
use mathlib.Core.List.{List}
use Prim.Native.Nat.{ℕ, ◌<◌}
use native.Mathlib.Omega.{arith}
use lib.ListN.{set}
use Rattle.lent.specs.Lent.{at}
use Rattle.lent.proofs.Laws.{by_choice, by_eq}
use Rattle.word.specs.Word.{decode_of}
use Rattle.word.proofs.RoundTrip.{encode_decode}
use Rattle.sh_state.specs.declared.machine.Machine.{Machine}
use Rattle.sh_map.specs.Map.{kind_of, register_bits, held_in, held_of}
use Rattle.sh_map.proofs.Within.{nibble_within}
use Rattle.sh_state.specs.Record.{set_mode, set_pending}
use Rattle.sh_state.specs.State.{State, state}
use Rattle.sh_rules.proofs.Fits.{Fit, mode_fits, pending_read_fits, store_keeps}
use Rattle.sh_timers.specs.declared.request.Moved.{Moved}
use Rattle.sh_interrupts.specs.Interrupt.{due_of, awake_of}
use Rattle.sh_timers.proofs.Kept.{MovedFit, requested_keeps, clocked_keeps}
use Rattle.sh_interrupts.proofs.Kept.{interrupted_keeps}
use Rattle.sh_execute.proofs.Kept.{execute_keeps}
use Rattle.sh_cycle.specs.Cycle.{Happened, moved_of, read_taken_of, woken_of, word_in_of, landed_of, clock_of, finished_of, executed_of, instructed_of, interrupt_cycle_of, awake_cycle_of, asleep_cycle_of, cycle_due_of, cycle_of}
use Rattle.refusal.specs.declared.Refusal.{Refusal}
use Rattle.word.specs.declared.Instruction.{Instruction}

pub moved_keeps : {l : List ℕ} {r : Moved} → MovedFit l r → Fit (moved_of l r)
moved_keeps {l} {r} f = requested_keeps f.fit r.requests f.requests

-- What the cycle sets by itself.
module _ {s : State} (f : Fit s) where
  mode_keeps : (v : ℕ) → v < 3 → Fit (state (set_mode s.machine v) s.memory)
  mode_keeps v h = record { memory = f.memory; machine = mode_fits f.machine v h }

  cleared_keeps : Fit (state (set_pending s.machine 0 0) s.memory)
  cleared_keeps = record { memory = f.memory; machine = pending_read_fits f.machine 0 0 (omega arith) (omega arith) (λ e. refl) }

  -- the four nibbles of a word that was read
  landed_keeps : (n0 n1 n2 n3 : ℕ) → n0 < 16 → n1 < 16 → n2 < 16 → n3 < 16
      → Fit (state s.machine (set (set (set (set s.memory 0x1A n0) 0x1B n1) 0x1C n2) 0x1D n3))
  unfolding held_of held_in kind_of register_bits
  landed_keeps n0 n1 n2 n3 h0 h1 h2 h3 =
      let f0 = store_keeps f 0x1A n0 (omega arith) (nibble_within n0 _ h0 refl) in
      let f1 = store_keeps f0 0x1B n1 (omega arith) (nibble_within n1 _ h1 refl) in
      let f2 = store_keeps f1 0x1C n2 (omega arith) (nibble_within n2 _ h2 refl) in
      store_keeps f2 0x1D n3 (omega arith) (nibble_within n3 _ h3 refl)

module _ {s : State} (f : Fit s) where
  landed_in_keeps : (p : List ℕ) (start : Machine) → Fit (state s.machine (landed_of p start s.memory))
  unfolding landed_of word_in_of
  landed_in_keeps p start =
      by_eq (λ l. Fit (state s.machine l)) start.pending 1 _ _ (λ e. landed_keeps f _ _ _ _ (omega arith) (omega arith) (omega arith) (omega arith))
      (λ n. f)

  read_taken_keeps : Fit (state (read_taken_of s.machine) s.memory)
  unfolding read_taken_of
  read_taken_keeps = cleared_keeps f

  woken_keeps : Fit (state (woken_of s.machine) s.memory)
  unfolding woken_of
  woken_keeps = mode_keeps read_taken_keeps 0 (omega arith)

finished_keeps : (p : List ℕ) (start : Machine) {s : State} → Fit s → Fit (finished_of p start s)
unfolding finished_of clock_of
finished_keeps p start f = moved_keeps (clocked_keeps (landed_in_keeps f p start))

module _ (p : List ℕ) {s : State} (f : Fit s) where
  -- an unlisted word leaves the state
  instructed_keeps : (w : ℕ) (d : Result Instruction Refusal) → decode_of w ≡ d → Fit (instructed_of p s d).after
  unfolding instructed_of executed_of
  instructed_keeps w (Ok i) e = finished_keeps p s.machine (execute_keeps i (encode_decode w i e).0 (woken_keeps f))
  instructed_keeps w (Err why) e = f

  awake_keeps : (due : ℕ) → Fit (awake_cycle_of p s due).after
  unfolding awake_cycle_of interrupt_cycle_of
  awake_keeps due =
      by_eq (λ (h : Happened). Fit h.after) due 0 _ _ (λ e. instructed_keeps (at p s.machine.pc) _ refl)
      (λ n. finished_keeps p s.machine (interrupted_keeps (woken_keeps f) due))

  asleep_keeps : Fit (asleep_cycle_of p s)
  unfolding asleep_cycle_of
  asleep_keeps = by_eq Fit s.machine.mode 1 _ _ (λ e. finished_keeps p s.machine (read_taken_keeps f)) (λ n. f)

  pub cycle_keeps : Fit (cycle_of p s).after
  unfolding cycle_of cycle_due_of
  cycle_keeps = by_choice (λ (h : Happened). Fit h.after) (awake_of s.machine.mode (due_of s.memory)) _ _ (awake_keeps (due_of s.memory)) asleep_keeps
