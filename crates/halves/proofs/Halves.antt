-- The two halves of one counter value: that at the read of $005, whatever the counter does before the read of $004.
use mathlib.Core.Path.{◌≡◌, ◌∙◌, refl, ap}
use mathlib.Core.Bool.{true, false}
use mathlib.Core.List.{List}
use Prim.Native.Nat.{ℕ, ◌+◌, ◌/◌, ◌%◌}
use lib.Dec.{ltb, eqb}
use borrow.Author.Tests.{eqb-true, eq-eqb}
use Rattle.lent.specs.Lent.{at}
use Rattle.lent.proofs.Laws.{by_choice, never}
use Rattle.word.specs.declared.Operation.{Operation}
use Rattle.word.specs.declared.ImmediateOperation.TheVariants.{Adi, Adim, Sbi, Sbim, Eorim, Orim, Andim}
use Rattle.word.specs.declared.Instruction.{Instruction}
use Rattle.word.specs.declared.Instruction.TheVariants.{Accumulator, Memory, Lda, Sta, Immediate, Ldi, Branch, Call, Daa, Das, Rtnw, Rtni, Halt, Stop, Jmp, Shr, Tjmp, Nop}
use Rattle.word.specs.Word.{decode_of}
use Rattle.alu.specs.Alu.{loaded_of}
use Rattle.sh_halves.specs.declared.Frozen.{Frozen}
use Rattle.sh_halves.specs.Halves.{frozen, released_of, frozen_of, low_of}
use Rattle.sh_halves.proofs.Kept.{FrozenFit}
use Rattle.sh_state.specs.declared.machine.Machine.{Machine}
use Rattle.sh_state.specs.Record.{set_pc, set_ac, set_cy, set_mode, set_prescaler, set_counter, set_pending, set_frozen}
use Rattle.sh_state.specs.State.{State, state}
use Rattle.sh_cells.specs.Cells.{target_of, value_of, seen_of, read_of}
use Rattle.sh_periods.specs.Periods.{ratio_of}
use Rattle.sh_timers.specs.declared.request.Moved.{Moved}
use Rattle.sh_timers.specs.Timer0.{counted_of, prescaled_by, prescaled_of, clocked_of}
use Rattle.sh_interrupts.specs.Interrupt.{due_of, awake_of}
use Rattle.sh_execute.specs.Execute.{onward_of, took_of, accumulated_of, load_of, accumulator_form_of, lda_of, with_immediate_of, immediate_form_of, execute_of}
use Rattle.sh_cycle.specs.Cycle.{Happened, happened, read_taken_of, woken_of, clock_of, finished_of, executed_of, instructed_of, awake_cycle_of, cycle_due_of, cycle_of}
use Rattle.sh_events.specs.Event.{event_of}
use Rattle.origins.specs.Origin.{after_of}
use Rattle.halves.specs.Between.{Executes, only_reads, touches_of, freezes_of, None}
use Rattle.halves.proofs.Stays.{finished_stays, events_stay}
use Rattle.halves.proofs.Released.{events_free}

-- the cycle that executes an instruction
executes : (p : List ℕ) (s : State) (i : Instruction) → Executes p s i → event_of p s 0x00 ≡ happened false (executed_of p s i)
unfolding event_of cycle_of cycle_due_of awake_cycle_of awake_of instructed_of
executes p s i x = rw (x.running, x.quiet, x.reads)

-- what a read leaves frozen: the nibble that stands at $005, nothing at $004
high_freezes : (s : State) → (read_of s 0x05).machine.frozen ≡ frozen_of s.machine.counter
unfolding read_of seen_of set_frozen
high_freezes s = refl

low_releases : (s : State) → (read_of s 0x04).machine.frozen ≡ released_of
unfolding read_of seen_of set_frozen
low_releases s = refl

-- an instruction that only reads leaves what the read leaves
only_reads_lem : (s : State) (i : Instruction) (c : ℕ) → only_reads i s.memory c ≡ true → (execute_of s i).machine.frozen ≡ (read_of s c).machine.frozen
unfolding execute_of only_reads accumulator_form_of accumulated_of lda_of load_of immediate_form_of with_immediate_of took_of onward_of set_pc set_ac set_cy
only_reads_lem s (Accumulator o x) c e = ap (λ (a : ℕ). (read_of s a).machine.frozen) (eqb-true _ c e)
only_reads_lem s (Memory o x) c e = never e
only_reads_lem s (Lda x) c e = ap (λ (a : ℕ). (read_of s a).machine.frozen) (eqb-true _ c e)
only_reads_lem s (Sta x) c e = never e
only_reads_lem s (Immediate Adi x i) c e = ap (λ (a : ℕ). (read_of s a).machine.frozen) (eqb-true _ c e)
only_reads_lem s (Immediate Adim x i) c e = never e
only_reads_lem s (Immediate Sbi x i) c e = ap (λ (a : ℕ). (read_of s a).machine.frozen) (eqb-true _ c e)
only_reads_lem s (Immediate Sbim x i) c e = never e
only_reads_lem s (Immediate Eorim x i) c e = never e
only_reads_lem s (Immediate Orim x i) c e = never e
only_reads_lem s (Immediate Andim x i) c e = never e
only_reads_lem s (Ldi x i) c e = never e
only_reads_lem s (Branch b t) c e = never e
only_reads_lem s (Call t) c e = never e
only_reads_lem s (Daa x) c e = never e
only_reads_lem s (Das x) c e = never e
only_reads_lem s (Rtnw h k) c e = never e
only_reads_lem s Rtni c e = never e
only_reads_lem s Halt c e = never e
only_reads_lem s Stop c e = never e
only_reads_lem s (Jmp t) c e = never e
only_reads_lem s Shr c e = never e
only_reads_lem s Tjmp c e = never e
only_reads_lem s Nop c e = never e

-- what $004 reads as, frozen and live
low_frozen : (s : State) (counter : ℕ) → s.machine.frozen ≡ frozen_of counter → value_of s 0x04 ≡ counter % 16
unfolding value_of low_of frozen_of
low_frozen s counter e = rw e

pub live : (s : State) → s.machine.frozen ≡ released_of → value_of s 0x04 ≡ s.machine.counter % 16
unfolding value_of low_of released_of
live s e = rw e

-- of a well-formed machine: where the mark is 0, nothing is frozen
pub unmarked : (f : Frozen) → FrozenFit f → f.mark ≡ 0 → f ≡ released_of
unfolding released_of
unmarked f g z = ap (λ (n : ℕ). frozen n f.mark) (g.none z) ∙ ap (λ (n : ℕ). frozen 0 n) z

-- $005 reads as the high nibble of the counter as it stands
pub high : (s : State) → value_of s 0x05 ≡ s.machine.counter / 16
unfolding value_of
high s = refl

-- what the read of an executed instruction gives: the same, since waking moves neither counter nor frozen nibble, pins nor memory
pub given : (s : State) (a : ℕ) → (read_of (state (woken_of s.machine) s.memory) a).value ≡ value_of s a
unfolding read_of value_of woken_of read_taken_of set_mode set_pending
given s a = refl

module _ (p : List ℕ) (s : State) (i : Instruction) (x : Executes p s i) where
  -- a cycle that only reads
  left : (c : ℕ) → only_reads i s.memory c ≡ true → (event_of p s 0x00).after.machine.frozen ≡ (read_of (state (woken_of s.machine) s.memory) c).machine.frozen
  unfolding executed_of
  left c o =
      ap (λ (h : Happened). h.after.machine.frozen) (executes p s i x)
      ∙ (finished_stays p _ _ ∙ only_reads_lem (state (woken_of s.machine) s.memory) i c o)

  -- $005: the nibble is frozen as it stood before the cycle
  pub freezes : only_reads i s.memory 0x05 ≡ true → (event_of p s 0x00).after.machine.frozen ≡ frozen_of s.machine.counter
  unfolding woken_of read_taken_of set_mode set_pending
  freezes o = left 0x05 o ∙ high_freezes (state (woken_of s.machine) s.memory)

  -- $004: released
  pub releases : only_reads i s.memory 0x04 ≡ true → (event_of p s 0x00).after.machine.frozen ≡ released_of
  releases o = left 0x04 o ∙ low_releases (state (woken_of s.machine) s.memory)

  -- the first read, the events between, and what $004 then reads as
  pub two_halves : only_reads i s.memory 0x05 ≡ true → (events : List ℕ) → None touches_of p events (event_of p s 0x00).after
      → (value_of s 0x05 ≡ s.machine.counter / 16) × (value_of (after_of p events (event_of p s 0x00).after) 0x04 ≡ s.machine.counter % 16)
  two_halves o events u =
      let t = after_of p events (event_of p s 0x00).after in
      (high s, low_frozen t s.machine.counter (events_stay p events (event_of p s 0x00).after u ∙ freezes o))

-- without a freeze: from a machine in which nothing is frozen, whatever comes of which nothing freezes
pub live_after : (p events : List ℕ) (s : State) → s.machine.frozen ≡ released_of → None freezes_of p events s
    → value_of (after_of p events s) 0x04 ≡ (after_of p events s).machine.counter % 16
live_after p events s f n = live (after_of p events s) (events_free p events s n f)

-- AC through (d) and (e)
counted_ac : (m : Machine) (mode : ℕ) → (counted_of m mode).machine.ac ≡ m.ac
unfolding counted_of set_counter
counted_ac m mode = by_choice (λ (v : Moved). v.machine.ac ≡ m.ac) (ltb m.counter 255) _ _ refl refl

clocked_ac : (m : Machine) (mode : ℕ) → (clocked_of m mode).machine.ac ≡ m.ac
unfolding clocked_of prescaled_of prescaled_by set_prescaler
clocked_ac m mode =
    by_choice (λ (v : Moved). v.machine.ac ≡ m.ac) (eqb (mode % 8) 7) _ _ refl
    (by_choice (λ (v : Moved). v.machine.ac ≡ m.ac) (ltb (m.prescaler + 1) (ratio_of mode)) _ _ refl (counted_ac (set_prescaler m 0) mode))

finished_ac : (p : List ℕ) (start : Machine) (s : State) → (finished_of p start s).machine.ac ≡ s.machine.ac
unfolding finished_of clock_of
finished_ac p start s = clocked_ac s.machine _

-- what LDA leaves in AC
lda_takes : (p : List ℕ) (s : State) (x a : ℕ) → Executes p s (Lda x) → target_of s.memory x ≡ a → (event_of p s 0x00).after.machine.ac ≡ value_of s a
unfolding executed_of execute_of lda_of load_of loaded_of took_of onward_of read_of value_of woken_of read_taken_of set_pc set_ac set_cy set_mode set_pending
lda_takes p s x a e t =
    ap (λ (h : Happened). h.after.machine.ac) (executes p s (Lda x) e)
    ∙ (finished_ac p _ _ ∙ ap (λ (n : ℕ). value_of s n) t)

-- LDA $005 and LDA $004, direct or through $00F
pub two_loads : (p : List ℕ) (s : State) (x y : ℕ) (events : List ℕ) → Executes p s (Lda x) → target_of s.memory x ≡ 0x05
    → None touches_of p events (event_of p s 0x00).after
    → Executes p (after_of p events (event_of p s 0x00).after) (Lda y) → target_of (after_of p events (event_of p s 0x00).after).memory y ≡ 0x04
    → ((event_of p s 0x00).after.machine.ac ≡ s.machine.counter / 16)
    × ((event_of p (after_of p events (event_of p s 0x00).after) 0x00).after.machine.ac ≡ s.machine.counter % 16)
unfolding only_reads
two_loads p s x y events e t u f v =
    let h = two_halves p s (Lda x) e (eq-eqb (target_of s.memory x) 0x05 t) events u in
    (lda_takes p s x 0x05 e t ∙ h.0, lda_takes p (after_of p events (event_of p s 0x00).after) y 0x04 f v ∙ h.1)
