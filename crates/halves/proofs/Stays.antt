-- What leaves the frozen nibble as it is: every event that reads neither half of the counter, writes no $005 and resets nothing.
use Rattle.std.specs.Prelude.{Err, Ok, Result}
use mathlib.Core.Path.{◌≡◌, ◌∙◌, refl}
use mathlib.Core.Bool.{Bool, false}
use mathlib.Core.List.{List, [], ◌∷◌}
use Prim.Native.Nat.{ℕ, ◌+◌, ◌/◌, ◌%◌}
use native.Mathlib.Omega.{arith}
use lib.Dec.{ltb, eqb}
use borrow.Author.Tests.{eqb-false, ne_eqb}
use Rattle.lent.specs.Lent.{pick, at}
use Rattle.lent.proofs.Laws.{test, by_choice, by_eq}
use Rattle.word.specs.declared.Operation.{Operation}
use Rattle.word.specs.declared.ImmediateOperation.TheVariants.{Adi, Adim, Sbi, Sbim, Eorim, Orim, Andim}
use Rattle.word.specs.declared.Instruction.{Instruction}
use Rattle.word.specs.declared.Instruction.TheVariants.{Accumulator, Memory, Lda, Sta, Immediate, Ldi, Branch, Call, Daa, Das, Rtnw, Rtni, Halt, Stop, Jmp, Shr, Tjmp, Nop}
use Rattle.word.specs.Word.{decode_of}
use Rattle.alu.specs.declared.Sum.{Sum}
use Rattle.sh_state.specs.declared.machine.Machine.{Machine}
use Rattle.sh_state.specs.Record.{set_pc, set_ac, set_cy, set_mode, set_stack, set_prescaler, set_counter, set_load, set_base_prescaler, set_base_counter, set_watchdog, set_pin_a, set_pin_b, set_pin_c, set_pin_d, set_pending, set_channels, push_of, pop_of}
use Rattle.sh_state.specs.State.{State, state}
use Rattle.sh_cells.specs.Cells.{target_of, restarted_of, seen_of, read_of}
use Rattle.sh_writes.specs.Writes.{base_written_of, load_low_of, asked_of, noticed_of, write_of}
use Rattle.sh_periods.specs.Periods.{ratio_of, base_ratio_of, base_on}
use Rattle.sh_timers.specs.declared.request.Moved.{Moved}
use Rattle.sh_timers.specs.Timer0.{counted_of, prescaled_by, prescaled_of, clocked_of, fallen_of}
use Rattle.sh_base_timer.specs.BaseTimer.{base_counted_of, base_prescaled_by, base_prescaled_of, base_pulsed_of}
use Rattle.sh_watchdog.specs.Watchdog.{counted_down_of}
use Rattle.sh_sound.specs.Sound.{sound_of}
use Rattle.sh_interrupts.specs.Interrupt.{due_of, awake_of, entered_of, interrupted_of}
use Rattle.sh_execute.specs.Execute.{onward_of, took_of, put_of, accumulated_of, stored_of, load_of, accumulator_form_of, memory_form_of, lda_of, sta_of, ldi_of, with_immediate_of, stored_immediate_of, immediate_form_of, daa_of, das_of, taken_of, branch_if_of, branch_of, call_of, rtnw_of, rtni_of, rest_of, shr_of, tjmp_of, execute_of}
use Rattle.sh_cycle.specs.Cycle.{read_taken_of, woken_of, clock_of, finished_of, executed_of, instructed_of, interrupt_cycle_of, awake_cycle_of, asleep_cycle_of, cycle_due_of, cycle_of}
use Rattle.sh_events.specs.Ports.{port_a_of, port_b_of, port_c_of}
use Rattle.sh_events.specs.Event.{base_pulse_of, watchdog_pulse_of, pins_of, other_of, event_of}
use Rattle.origins.specs.Origin.{after_of}
use Rattle.halves.specs.Between.{half_of, touches_by, word_does, cycle_does, resets_of, touches_of, None}
use Rattle.refusal.specs.declared.Refusal.{Refusal}

-- the record left has the frozen nibble that this one has
abbrev pub Kept : Machine → Machine → Type 0
Kept m n = n.frozen ≡ m.frozen

abbrev pub Part : Machine → Moved → Type 0
Part m v = Kept m v.machine

abbrev pub Left : State → State → Type 0
Left s t = Kept s.machine t.machine

-- Timer0, base timer, watchdog.

counted_stays : (m : Machine) (mode : ℕ) → Part m (counted_of m mode)
unfolding counted_of set_counter
counted_stays m mode = by_choice (Part m) (ltb m.counter 255) _ _ refl refl

clocked_stays : (m : Machine) (mode : ℕ) → Part m (clocked_of m mode)
unfolding clocked_of prescaled_of prescaled_by set_prescaler
clocked_stays m mode =
    by_choice (Part m) (eqb (mode % 8) 7) _ _ refl
    (by_choice (Part m) (ltb (m.prescaler + 1) (ratio_of mode)) _ _ refl (counted_stays (set_prescaler m 0) mode))

fallen_stays : (m : Machine) (mode falling : ℕ) → Part m (fallen_of m mode falling)
unfolding fallen_of
fallen_stays m mode falling =
    by_choice (Part m) (eqb falling 0) _ _ refl
    (by_choice (Part m) (eqb m.mode 2) _ _ refl (by_choice (Part m) (eqb (mode % 8) 7) _ _ (counted_stays m mode) refl))

base_counted_stays : (m : Machine) → Part m (base_counted_of m)
unfolding base_counted_of set_base_counter
base_counted_stays m = by_choice (Part m) (ltb m.basecounter 255) _ _ refl refl

pub base_stays : (m : Machine) (mode : ℕ) → Part m (base_pulsed_of m mode)
unfolding base_pulsed_of base_prescaled_of base_prescaled_by set_base_prescaler
base_stays m mode =
    by_choice (Part m) (eqb m.mode 2) _ _ refl
    (by_choice (Part m) (base_on mode) _ _
    (by_choice (Part m) (ltb (m.baseprescaler + 1) (base_ratio_of mode)) _ _ refl (base_counted_stays (set_base_prescaler m 0))) refl)

pub counted_down_stays : (m : Machine) → Kept m (counted_down_of m)
unfolding counted_down_of set_watchdog
counted_down_stays m =
    by_choice (Kept m) (eqb (m.options % 2) 1) _ _ (by_choice (Kept m) (ltb 1 m.watchdog) _ _ refl refl) refl

-- (d) and (e)
pub finished_stays : (p : List ℕ) (start : Machine) (s : State) → Left s (finished_of p start s)
unfolding finished_of clock_of
finished_stays p start s = clocked_stays s.machine _

-- Reading and writing a cell.

unhalved : (a : ℕ) → half_of a ≡ false → (a ≡ 0x04 → ⊥) × (a ≡ 0x05 → ⊥)
unfolding half_of
unhalved a =
    by_eq (λ b. b ≡ false → (a ≡ 0x04 → ⊥) × (a ≡ 0x05 → ⊥)) a 0x04 _ _
    (λ t h. let z : ◌≡◌ {A = ℕ} 0 1 = cc in absurd (omega arith)) (λ t h. (t, eqb-false a 0x05 h))

read_stays : (s : State) (a : ℕ) → half_of a ≡ false → Kept s.machine (read_of s a).machine
unfolding read_of seen_of restarted_of set_watchdog
read_stays s a e =
    let u = unhalved a e in
    rw (ne_eqb a 0x04 u.0, ne_eqb a 0x05 u.1) (by_choice (Kept s.machine) (eqb a 0x1E) _ _ refl refl)

noticed_stays : (s : State) (a v : ℕ) → (a ≡ 0x05 → ⊥) → Kept s.machine (noticed_of s a v)
unfolding noticed_of base_written_of load_low_of asked_of restarted_of set_prescaler set_base_prescaler set_base_counter set_load set_pending set_watchdog
noticed_stays s a v n =
    by_choice (Kept s.machine) (eqb a 0x02) _ _ refl
    (by_choice (Kept s.machine) (eqb a 0x03) _ _ (by_choice (Kept s.machine) (base_on v) _ _ refl refl)
    (by_choice (Kept s.machine) (eqb a 0x04) _ _ refl
    (by_eq (Kept s.machine) a 0x05 _ _ (λ t. absurd (n t))
    (λ _. by_choice (Kept s.machine) (eqb a 0x1A) _ _ refl (by_choice (Kept s.machine) (eqb a 0x1E) _ _ refl refl)))))

pub put_stays : (s : State) (a : ℕ) (r : Sum) → (a ≡ 0x05 → ⊥) → Left s (put_of s a r)
unfolding put_of write_of took_of onward_of set_pc set_cy set_ac
put_stays s a r n = noticed_stays (state (took_of s.machine r) s.memory) a r.value n

-- a form that reads the cell and then writes it
both_stays : (s : State) (a : ℕ) (r : Sum) → half_of a ≡ false → Left s (put_of (state (read_of s a).machine s.memory) a r)
both_stays s a r e =
    put_stays (state (read_of s a).machine s.memory) a r (unhalved a e).1 ∙ read_stays s a e

accumulated_stays : (s : State) (o : Operation) (operand a : ℕ) → half_of a ≡ false → Kept s.machine (accumulated_of s o operand a)
unfolding accumulated_of took_of onward_of set_pc set_cy set_ac
accumulated_stays s o operand a e = read_stays s a e

-- An instruction.
pub execute_stays : (s : State) (i : Instruction) → touches_by i s.memory ≡ false → Left s (execute_of s i)
unfolding execute_of touches_by accumulator_form_of memory_form_of stored_of lda_of load_of sta_of ldi_of immediate_form_of with_immediate_of stored_immediate_of daa_of das_of branch_of branch_if_of call_of rtnw_of rtni_of rest_of shr_of tjmp_of took_of onward_of push_of pop_of set_pc set_ac set_cy set_mode set_stack
execute_stays s (Accumulator o x) e = accumulated_stays s o _ _ e
execute_stays s (Memory o x) e = both_stays s _ _ e
execute_stays s (Lda x) e = read_stays s _ e
execute_stays s (Sta x) e = put_stays s _ _ (eqb-false _ _ e)
execute_stays s (Immediate Adi x i) e = accumulated_stays s _ _ _ e
execute_stays s (Immediate Adim x i) e = both_stays s _ _ e
execute_stays s (Immediate Sbi x i) e = accumulated_stays s _ _ _ e
execute_stays s (Immediate Sbim x i) e = both_stays s _ _ e
execute_stays s (Immediate Eorim x i) e = both_stays s _ _ e
execute_stays s (Immediate Orim x i) e = both_stays s _ _ e
execute_stays s (Immediate Andim x i) e = both_stays s _ _ e
execute_stays s (Ldi x i) e = put_stays s _ _ (eqb-false _ _ e)
execute_stays s (Branch b t) e = by_choice (Kept s.machine) (taken_of b s.machine.ac s.machine.cy) _ _ refl refl
execute_stays s (Call t) e = refl
execute_stays s (Daa x) e = both_stays s _ _ e
execute_stays s (Das x) e = both_stays s _ _ e
execute_stays s (Rtnw h l) e = refl
execute_stays s Rtni e = refl
execute_stays s Halt e = refl
execute_stays s Stop e = refl
execute_stays s (Jmp t) e = refl
execute_stays s Shr e = refl
execute_stays s Tjmp e = refl
execute_stays s Nop e = refl

-- A cycle.

word_stays : (p : List ℕ) (s : State) (d : Result Instruction Refusal) → word_does touches_by d s.memory ≡ false → Left s (instructed_of p s d).after
unfolding instructed_of word_does executed_of woken_of read_taken_of set_mode set_pending
word_stays p s (Ok i) e = finished_stays p _ _ ∙ execute_stays (state (woken_of s.machine) s.memory) i e
word_stays p s (Err why) e = refl

pub interrupt_stays : (p : List ℕ) (s : State) (due : ℕ) → Left s (interrupt_cycle_of p s due)
unfolding interrupt_cycle_of interrupted_of entered_of push_of set_pc set_stack woken_of read_taken_of set_mode set_pending
interrupt_stays p s due = finished_stays p _ _

pub asleep_stays : (p : List ℕ) (s : State) → Left s (asleep_cycle_of p s)
unfolding asleep_cycle_of read_taken_of set_pending
asleep_stays p s = by_choice (Left s) (eqb s.machine.mode 1) _ _ (finished_stays p _ _) refl

cycle_stays : (p : List ℕ) (s : State) → cycle_does touches_by p s ≡ false → Left s (cycle_of p s).after
unfolding cycle_does cycle_of cycle_due_of awake_cycle_of
cycle_stays p s e =
    let due = due_of s.memory in
    test (awake_of s.machine.mode due)
    (λ a. test (eqb due 0)
    (λ q. rw (a, q) (word_stays p s (decode_of (at p s.machine.pc)) (rw (a, q) at e)))
    (λ q. rw (a, q) (interrupt_stays p s due)))
    (λ a. rw a (asleep_stays p s))

-- Every event.

pub pins_stay : (s : State) (e : ℕ) → Left s (pins_of s e)
unfolding pins_of port_a_of port_b_of port_c_of set_pin_a set_pin_b set_pin_c set_pin_d
pins_stay s e =
    by_choice (Left s) (eqb (e / 16) 1) _ _ (fallen_stays (set_pin_a s.machine (e % 16)) _ _)
    (by_choice (Left s) (eqb (e / 16) 2) _ _ refl
    (by_choice (Left s) (eqb (e / 16) 3) _ _ refl (by_choice (Left s) (eqb (e / 16) 4) _ _ refl refl)))

other_stays : (s : State) (e : ℕ) → resets_of s e ≡ false → Left s (other_of s e)
unfolding resets_of other_of base_pulse_of watchdog_pulse_of sound_of set_channels
other_stays s e h =
    by_choice (Left s) (eqb e 0x01) _ _ (base_stays s.machine _)
    (test (eqb e 0x02)
    (λ b. rw (b, rw b at h) (counted_down_stays s.machine))
    (λ b. rw (b, rw b at h) (by_choice (Left s) (eqb e 0x05) _ _ (by_choice (Kept s.machine) (eqb s.machine.mode 2) _ _ refl refl) (pins_stay s e))))

pub event_stays : (p : List ℕ) (s : State) (e : ℕ) → touches_of p s e ≡ false → Left s (event_of p s e).after
unfolding touches_of event_of
event_stays p s e h =
    test (eqb e 0x00) (λ z. rw z (cycle_stays p s (rw z at h))) (λ z. rw z (other_stays s e (rw z at h)))

-- and as many as there are
pub events_stay : (p events : List ℕ) (s : State) → None touches_of p events s → Left s (after_of p events s)
unfolding after_of
events_stay p [] s u = refl
events_stay p (e ∷ events) s u = events_stay p events (event_of p s e).after u.1 ∙ event_stays p s e u.0
