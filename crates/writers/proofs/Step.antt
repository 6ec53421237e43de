-- The whole cycle, the event $00, leaves a cell that can be asked for as its instruction does: the rest of the cycle stores below $020 only.
use Rattle.std.specs.Prelude.{Err, Ok, Result}
use mathlib.Core.Path.{◌≡◌, ◌∙◌, refl, sym, ap}
use mathlib.Core.Bool.{true, false}
use mathlib.Core.List.{List}
use Prim.Native.Nat.{ℕ, ◌/◌, ◌%◌, ◌≤◌}
use native.Mathlib.Omega.{arith}
use lib.Bits.{bit_or}
use lib.ListN.{set}
use lib.Seq.{get_or-set_other}
use Rattle.lent.specs.Lent.{at}
use Rattle.lent.proofs.Laws.{by_eq}
use Rattle.word.specs.declared.Instruction.{Instruction}
use Rattle.word.specs.Word.{decode_of}
use Rattle.word.proofs.RoundTrip.{encode_decode}
use Rattle.sh_state.specs.declared.machine.Machine.{Machine}
use Rattle.sh_rules.specs.Judge.{state_judged}
use Rattle.sh_map.specs.Map.{askable_of}
use Rattle.sh_state.specs.Record.{set_mode, set_pending}
use Rattle.sh_state.specs.State.{State, state}
use Rattle.sh_cells.specs.Cells.{value_of}
use Rattle.sh_timers.specs.Request.{requested_of}
use Rattle.sh_interrupts.specs.Interrupt.{due_of, awake_of}
use Rattle.sh_execute.specs.Execute.{execute_of}
use Rattle.sh_cycle.specs.Cycle.{read_taken_of, woken_of, word_in_of, landed_of, clock_of, finished_of, executed_of, instructed_of, awake_cycle_of, cycle_due_of, cycle_of}
use Rattle.sh_events.specs.Event.{event_of}
use Rattle.writers.specs.Statement.{Changes}
use Rattle.writers.proofs.Cell.{past_registers}
use Rattle.writers.proofs.Forms.{left_of, Form, form_of}
use Rattle.writers.proofs.Forms.Form.{Writes, Leaves}
use Rattle.refusal.specs.declared.Refusal.{Refusal}

-- waking clears the pending read and the mode, by which no instruction writes
woken_same : (i : Instruction) (c : ℕ) → Form i c → (m : Machine) (l : List ℕ) → at (execute_of (state (woken_of m) l) i).memory c ≡ at (execute_of (state m l) i).memory c
unfolding left_of value_of woken_of read_taken_of set_mode set_pending
woken_same i c (Writes x value may w after passes) m l = ap (λ (k : List ℕ). at k c) (after (state (woken_of m) l) ∙ sym (after (state m l)))
woken_same i c (Leaves same fails) m l = same (state (woken_of m) l) ∙ sym (same (state m l))

module _ (c : ℕ) (h : 0x20 ≤ c) where
  -- a store below $020
  below_stays : (l : List ℕ) (a v : ℕ) → a ≤ 0x1F → at (set l a v) c ≡ at l c
  below_stays l a v k = get_or-set_other l a c v 0 (omega arith)

  pub requested_stays : (l : List ℕ) (bits : ℕ) → at (requested_of l bits) c ≡ at l c
  unfolding requested_of
  requested_stays l bits = below_stays l 0x01 (bit_or (at l 0x01) bits) (omega arith)

  word_stays : (l : List ℕ) (w : ℕ) → at (word_in_of l w) c ≡ at l c
  unfolding word_in_of
  word_stays l w =
      let l1 = set l 0x1A (w % 16) in
      let l2 = set l1 0x1B (w / 16 % 16) in
      let l3 = set l2 0x1C (w / 256 % 16) in
      below_stays l3 0x1D (w / 4096 % 16) (omega arith)
      ∙ (below_stays l2 0x1C (w / 256 % 16) (omega arith)
      ∙ (below_stays l1 0x1B (w / 16 % 16) (omega arith) ∙ below_stays l 0x1A (w % 16) (omega arith)))

  -- (d) and (e)
  pub finished_stays : (p : List ℕ) (start : Machine) (s : State) → at (finished_of p start s).memory c ≡ at s.memory c
  unfolding finished_of clock_of landed_of
  finished_stays p start s =
      requested_stays (landed_of p start s.memory) _
      ∙ by_eq (λ l. at l c ≡ at s.memory c) start.pending 1 _ _ (λ e. word_stays s.memory (at p start.address)) (λ n. refl)

-- the event of a machine that runs with nothing due: the instruction at its counter, then (d) and (e)
pub executed : (p : List ℕ) (s : State) (i : Instruction) → s.machine.mode ≡ 0 → due_of s.memory ≡ 0 → decode_of (at p s.machine.pc) ≡ Ok i
    → ((event_of p s 0x00).stuck ≡ false) × ((event_of p s 0x00).after ≡ executed_of p s i)
unfolding event_of cycle_of cycle_due_of awake_of awake_cycle_of instructed_of
executed p s i r q e = rw (q, r, e) (refl, refl)

pub step_changes : (p : List ℕ) (s : State) (i : Instruction) (c : ℕ) → s.machine.mode ≡ 0 → due_of s.memory ≡ 0 → decode_of (at p s.machine.pc) ≡ Ok i → askable_of c ≡ true
    → at (event_of p s 0x00).after.memory c ≡ at (execute_of s i).memory c
unfolding executed_of
step_changes p s i c r q e h =
    ap (λ (t : State). at t.memory c) (executed p s i r q e).1
    ∙ (finished_stays c (past_registers c h).0 p s.machine _
    ∙ woken_same i c (form_of i c (encode_decode (at p s.machine.pc) i e).0 h) s.machine s.memory)

-- So the list is about what the event does: where the statement holds, the event leaves its machine's cell with another value,
pub step_differs : (p : List ℕ) (a c : ℕ) → askable_of c ≡ true → (d : Changes p a c) → at (event_of p d.before 0x00).after.memory c ≡ at d.before.memory c → ⊥
step_differs p a c h d e =
    d.differs (sym (step_changes p d.before d.instruction c d.running d.quiet (rw d.there d.reads) h) ∙ e)

-- and where the event of some well-formed machine, running, with nothing due, does that, the statement holds of its counter.
pub differs_by_step : (p : List ℕ) (s : State) (c : ℕ) → askable_of c ≡ true → state_judged s ≡ Ok tt → s.machine.mode ≡ 0 → due_of s.memory ≡ 0
    → (at (event_of p s 0x00).after.memory c ≡ at s.memory c → ⊥) → Changes p s.machine.pc c
unfolding event_of cycle_of cycle_due_of awake_of awake_cycle_of instructed_of
differs_by_step p s c h f r q n = by_word (decode_of (at p s.machine.pc)) refl
  where
    by_word : (d : Result Instruction Refusal) → decode_of (at p s.machine.pc) ≡ d → Changes p s.machine.pc c
    by_word (Ok i) e = record {
      before = s;
      well_formed = f;
      running = r;
      quiet = q;
      there = refl;
      instruction = i;
      reads = e;
      differs = λ k. n (step_changes p s i c r q e h ∙ k);
    }
    by_word (Err why) e = absurd (n (rw (q, r, e)))
