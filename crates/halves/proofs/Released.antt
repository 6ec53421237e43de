-- What releases does so whatever was frozen; and where nothing is frozen, nothing is after any events of which none freezes.
use Rattle.std.specs.Prelude.{Err, Ok, Result}
use mathlib.Core.Path.{◌≡◌, ◌∙◌, refl}
use mathlib.Core.Bool.{Bool, true, false}
use mathlib.Core.List.{List, [], ◌∷◌}
use Prim.Native.Nat.{ℕ}
use lib.Dec.{eqb}
use borrow.Author.Tests.{eqb-true, eqb-false}
use Rattle.lent.specs.Lent.{pick, at}
use Rattle.lent.proofs.Laws.{test, by_choice, by_eq, never}
use Rattle.word.specs.declared.Operation.{Operation}
use Rattle.word.specs.declared.ImmediateOperation.TheVariants.{Adi, Adim, Sbi, Sbim, Eorim, Orim, Andim}
use Rattle.word.specs.declared.Instruction.{Instruction}
use Rattle.word.specs.declared.Instruction.TheVariants.{Accumulator, Memory, Lda, Sta, Immediate, Ldi, Branch, Call, Daa, Das, Rtnw, Rtni, Halt, Stop, Jmp, Shr, Tjmp, Nop}
use Rattle.word.specs.Word.{decode_of}
use Rattle.alu.specs.declared.Sum.{Sum}
use Rattle.sh_halves.specs.Halves.{released_of}
use Rattle.sh_state.specs.declared.machine.Machine.{Machine}
use Rattle.sh_state.specs.Record.{set_pc, set_ac, set_cy, set_mode, set_pending, set_watchdog, set_pin_a, set_pin_b, set_pin_c, set_pin_d, set_channels, set_frozen, fresh_of}
use Rattle.sh_state.specs.State.{State, state}
use Rattle.sh_cells.specs.Cells.{restarted_of, seen_of, read_of}
use Rattle.sh_writes.specs.Writes.{load_high_of, noticed_of, write_of}
use Rattle.sh_reset.specs.declared.reset.Column.{Column}
use Rattle.sh_reset.specs.declared.reset.Column.TheVariants.{Pin, Watchdog}
use Rattle.sh_reset.specs.Reset as reset
use Rattle.sh_watchdog.specs.Watchdog.{expires_of}
use Rattle.sh_sound.specs.Sound.{sound_of}
use Rattle.sh_interrupts.specs.Interrupt.{due_of, awake_of}
use Rattle.sh_execute.specs.Execute.{onward_of, took_of, put_of, accumulated_of, stored_of, load_of, accumulator_form_of, memory_form_of, lda_of, sta_of, ldi_of, with_immediate_of, stored_immediate_of, immediate_form_of, daa_of, das_of, execute_of}
use Rattle.sh_cycle.specs.Cycle.{read_taken_of, woken_of, executed_of, instructed_of, awake_cycle_of, cycle_due_of, cycle_of}
use Rattle.sh_events.specs.Event.{base_pulse_of, watchdog_pulse_of, other_of, event_of}
use Rattle.origins.specs.Origin.{after_of}
use Rattle.halves.specs.Between.{only_reads, half_of, touches_by, freezes_by, releases_by, word_does, cycle_does, resets_of, touches_of, freezes_of, releases_of, None}
use Rattle.halves.proofs.Stays.{base_stays, counted_down_stays, finished_stays, put_stays, execute_stays, interrupt_stays, asleep_stays, pins_stay}
use Rattle.refusal.specs.declared.Refusal.{Refusal}

abbrev pub Free : Machine → Type 0
Free m = m.frozen ≡ released_of

abbrev pub FreeIn : State → Type 0
FreeIn s = Free s.machine

-- A cell: every read but that of $005, and every write.

read_free : (s : State) (a : ℕ) → eqb a 0x05 ≡ false → FreeIn s → Free (read_of s a).machine
unfolding read_of seen_of restarted_of set_watchdog set_frozen
read_free s a n f =
    by_choice Free (eqb a 0x04) _ _ refl
    (by_eq Free a 0x05 _ _ (λ t. absurd (eqb-false a 0x05 n t)) (λ _. by_choice Free (eqb a 0x1E) _ _ f f))

-- a write to $005 releases whatever was frozen
written_free : (s : State) (a v : ℕ) → a ≡ 0x05 → Free (noticed_of s a v)
unfolding noticed_of load_high_of set_frozen
written_free s a v e = rw e

high_put_free : (s : State) (a : ℕ) (r : Sum) → a ≡ 0x05 → FreeIn (put_of s a r)
unfolding put_of write_of
high_put_free s a r e = written_free (state (took_of s.machine r) s.memory) a r.value e

-- a read of $004 releases
low_read_free : (s : State) (a : ℕ) → a ≡ 0x04 → Free (read_of s a).machine
unfolding read_of seen_of set_frozen
low_read_free s a e = rw e

put_free : (s : State) (a : ℕ) (r : Sum) → FreeIn s → FreeIn (put_of s a r)
put_free s a r f =
    test (eqb a 0x05) (λ t. high_put_free s a r (eqb-true a 0x05 t)) (λ t. put_stays s a r (eqb-false a 0x05 t) ∙ f)

both_free : (s : State) (a : ℕ) (r : Sum) → FreeIn s → FreeIn (put_of (state (read_of s a).machine s.memory) a r)
both_free s a r f =
    let t = state (read_of s a).machine s.memory in
    test (eqb a 0x05) (λ e. high_put_free t a r (eqb-true a 0x05 e)) (λ e. put_free t a r (read_free s a e f))

-- a form that reads and then writes releases on either half
both_releases : (s : State) (a : ℕ) (r : Sum) → half_of a ≡ true → FreeIn (put_of (state (read_of s a).machine s.memory) a r)
unfolding half_of
both_releases s a r h =
    let t = state (read_of s a).machine s.memory in
    test (eqb a 0x04) (λ e. put_free t a r (low_read_free s a (eqb-true a 0x04 e))) (λ e. high_put_free t a r (eqb-true a 0x05 (rw e at h)))

-- An instruction.
execute_releases : (s : State) (i : Instruction) → releases_by i s.memory ≡ true → FreeIn (execute_of s i)
unfolding execute_of releases_by accumulator_form_of accumulated_of memory_form_of stored_of lda_of load_of sta_of ldi_of immediate_form_of with_immediate_of stored_immediate_of daa_of das_of took_of onward_of set_pc set_ac set_cy
execute_releases s (Accumulator o x) h = low_read_free s _ (eqb-true _ 0x04 h)
execute_releases s (Memory o x) h = both_releases s _ _ h
execute_releases s (Lda x) h = low_read_free s _ (eqb-true _ 0x04 h)
execute_releases s (Sta x) h = high_put_free s _ _ (eqb-true _ 0x05 h)
execute_releases s (Immediate Adi x i) h = low_read_free s _ (eqb-true _ 0x04 h)
execute_releases s (Immediate Adim x i) h = both_releases s _ _ h
execute_releases s (Immediate Sbi x i) h = low_read_free s _ (eqb-true _ 0x04 h)
execute_releases s (Immediate Sbim x i) h = both_releases s _ _ h
execute_releases s (Immediate Eorim x i) h = both_releases s _ _ h
execute_releases s (Immediate Orim x i) h = both_releases s _ _ h
execute_releases s (Immediate Andim x i) h = both_releases s _ _ h
execute_releases s (Ldi x i) h = high_put_free s _ _ (eqb-true _ 0x05 h)
execute_releases s (Daa x) h = both_releases s _ _ h
execute_releases s (Das x) h = both_releases s _ _ h
execute_releases s (Branch b t) h = never h
execute_releases s (Call t) h = never h
execute_releases s (Rtnw k v) h = never h
execute_releases s Rtni h = never h
execute_releases s Halt h = never h
execute_releases s Stop h = never h
execute_releases s (Jmp t) h = never h
execute_releases s Shr h = never h
execute_releases s Tjmp h = never h
execute_releases s Nop h = never h

execute_free : (s : State) (i : Instruction) → freezes_by i s.memory ≡ false → FreeIn s → FreeIn (execute_of s i)
unfolding execute_of freezes_by only_reads touches_by accumulator_form_of accumulated_of memory_form_of stored_of lda_of load_of sta_of ldi_of immediate_form_of with_immediate_of stored_immediate_of daa_of das_of took_of onward_of set_pc set_ac set_cy
execute_free s (Accumulator o x) n f = read_free s _ n f
execute_free s (Memory o x) n f = both_free s _ _ f
execute_free s (Lda x) n f = read_free s _ n f
execute_free s (Sta x) n f = put_free s _ _ f
execute_free s (Immediate Adi x i) n f = read_free s _ n f
execute_free s (Immediate Adim x i) n f = both_free s _ _ f
execute_free s (Immediate Sbi x i) n f = read_free s _ n f
execute_free s (Immediate Sbim x i) n f = both_free s _ _ f
execute_free s (Immediate Eorim x i) n f = both_free s _ _ f
execute_free s (Immediate Orim x i) n f = both_free s _ _ f
execute_free s (Immediate Andim x i) n f = both_free s _ _ f
execute_free s (Ldi x i) n f = put_free s _ _ f
execute_free s (Daa x) n f = both_free s _ _ f
execute_free s (Das x) n f = both_free s _ _ f
execute_free s (Branch b t) n f = execute_stays s (Branch b t) refl ∙ f
execute_free s (Call t) n f = execute_stays s (Call t) refl ∙ f
execute_free s (Rtnw h k) n f = execute_stays s (Rtnw h k) refl ∙ f
execute_free s Rtni n f = execute_stays s Rtni refl ∙ f
execute_free s Halt n f = execute_stays s Halt refl ∙ f
execute_free s Stop n f = execute_stays s Stop refl ∙ f
execute_free s (Jmp t) n f = execute_stays s (Jmp t) refl ∙ f
execute_free s Shr n f = execute_stays s Shr refl ∙ f
execute_free s Tjmp n f = execute_stays s Tjmp refl ∙ f
execute_free s Nop n f = execute_stays s Nop refl ∙ f

-- A cycle.

word_free : (p : List ℕ) (s : State) (d : Result Instruction Refusal) → word_does freezes_by d s.memory ≡ false → FreeIn s → FreeIn (instructed_of p s d).after
unfolding instructed_of word_does executed_of woken_of read_taken_of set_mode set_pending
word_free p s (Ok i) n f = finished_stays p _ _ ∙ execute_free (state (woken_of s.machine) s.memory) i n f
word_free p s (Err why) n f = f

word_releases : (p : List ℕ) (s : State) (d : Result Instruction Refusal) → word_does releases_by d s.memory ≡ true → FreeIn (instructed_of p s d).after
unfolding instructed_of word_does executed_of
word_releases p s (Ok i) h = finished_stays p _ _ ∙ execute_releases (state (woken_of s.machine) s.memory) i h
word_releases p s (Err why) h = never h

cycle_releases : (p : List ℕ) (s : State) → cycle_does releases_by p s ≡ true → FreeIn (cycle_of p s).after
unfolding cycle_does cycle_of cycle_due_of awake_cycle_of
cycle_releases p s h =
    let due = due_of s.memory in
    test (awake_of s.machine.mode due)
    (λ a. test (eqb due 0)
    (λ q. rw (a, q) (word_releases p s (decode_of (at p s.machine.pc)) (rw (a, q) at h)))
    (λ q. never (rw (a, q) at h)))
    (λ a. never (rw a at h))

cycle_free : (p : List ℕ) (s : State) → cycle_does freezes_by p s ≡ false → FreeIn s → FreeIn (cycle_of p s).after
unfolding cycle_does cycle_of cycle_due_of awake_cycle_of
cycle_free p s n f =
    let due = due_of s.memory in
    test (awake_of s.machine.mode due)
    (λ a. test (eqb due 0)
    (λ q. rw (a, q) (word_free p s (decode_of (at p s.machine.pc)) (rw (a, q) at n) f))
    (λ q. rw (a, q) (interrupt_stays p s due ∙ f)))
    (λ a. rw a (asleep_stays p s ∙ f))

-- Every event.

reset_free : (column : Column) (s : State) → FreeIn (reset.reset_of column s)
unfolding reset.reset_of reset.reset_record_of reset.pins_of fresh_of set_pin_a set_pin_b set_pin_c set_pin_d
reset_free column s = refl

other_releases : (s : State) (e : ℕ) → resets_of s e ≡ true → FreeIn (other_of s e)
unfolding resets_of other_of watchdog_pulse_of
other_releases s e h =
    test (eqb e 0x02)
    (λ b. let z = eqb-true e 0x02 b in rw (z, rw b at h) (reset_free Watchdog s))
    (λ b. let z = eqb-true e 0x03 (rw b at h) in rw z (reset_free Pin s))

-- whatever was frozen
pub event_releases : (p : List ℕ) (s : State) (e : ℕ) → releases_of p s e ≡ true → FreeIn (event_of p s e).after
unfolding releases_of event_of
event_releases p s e h =
    test (eqb e 0x00) (λ z. rw z (cycle_releases p s (rw z at h))) (λ z. rw z (other_releases s e (rw z at h)))

other_free : (s : State) (e : ℕ) → FreeIn s → FreeIn (other_of s e)
unfolding other_of base_pulse_of watchdog_pulse_of sound_of set_channels
other_free s e f =
    by_choice FreeIn (eqb e 0x01) _ _ (base_stays s.machine _ ∙ f)
    (by_choice FreeIn (eqb e 0x02) _ _
    (by_choice FreeIn (expires_of s.machine) _ _ (reset_free Watchdog s) (counted_down_stays s.machine ∙ f))
    (by_choice FreeIn (eqb e 0x03) _ _ (reset_free Pin s)
    (by_choice FreeIn (eqb e 0x05) _ _ (by_choice Free (eqb s.machine.mode 2) _ _ f f) (pins_stay s e ∙ f))))

event_free : (p : List ℕ) (s : State) (e : ℕ) → freezes_of p s e ≡ false → FreeIn s → FreeIn (event_of p s e).after
unfolding freezes_of event_of
event_free p s e n f = test (eqb e 0x00) (λ z. rw z (cycle_free p s (rw z at n) f)) (λ z. rw z (other_free s e f))

pub events_free : (p events : List ℕ) (s : State) → None freezes_of p events s → FreeIn s → FreeIn (after_of p events s)
unfolding after_of
events_free p [] s n f = f
events_free p (e ∷ events) s n f = events_free p events (event_of p s e).after n.1 (event_free p s e n.0 f)

-- What touches the frozen nibble freezes or releases, and nothing else is touched.

either_half : (a : ℕ) → half_of a ≡ pick (eqb a 0x05) true (eqb a 0x04)
unfolding half_of
either_half a =
    test (eqb a 0x04) (λ b. test (eqb a 0x05) (λ c. rw (b, c)) (λ c. rw (b, c))) (λ b. test (eqb a 0x05) (λ c. rw (b, c)) (λ c. rw (b, c)))

instruction_either : (i : Instruction) (l : List ℕ) → touches_by i l ≡ pick (freezes_by i l) true (releases_by i l)
unfolding touches_by freezes_by only_reads releases_by
instruction_either (Accumulator o x) l = either_half _
instruction_either (Memory o x) l = refl
instruction_either (Lda x) l = either_half _
instruction_either (Sta x) l = refl
instruction_either (Immediate Adi x i) l = either_half _
instruction_either (Immediate Adim x i) l = refl
instruction_either (Immediate Sbi x i) l = either_half _
instruction_either (Immediate Sbim x i) l = refl
instruction_either (Immediate Eorim x i) l = refl
instruction_either (Immediate Orim x i) l = refl
instruction_either (Immediate Andim x i) l = refl
instruction_either (Ldi x i) l = refl
instruction_either (Branch b t) l = refl
instruction_either (Call t) l = refl
instruction_either (Daa x) l = refl
instruction_either (Das x) l = refl
instruction_either (Rtnw h k) l = refl
instruction_either Rtni l = refl
instruction_either Halt l = refl
instruction_either Stop l = refl
instruction_either (Jmp t) l = refl
instruction_either Shr l = refl
instruction_either Tjmp l = refl
instruction_either Nop l = refl

word_either : (d : Result Instruction Refusal) (l : List ℕ) → word_does touches_by d l ≡ pick (word_does freezes_by d l) true (word_does releases_by d l)
unfolding word_does
word_either (Ok i) l = instruction_either i l
word_either (Err why) l = refl

cycle_either : (p : List ℕ) (s : State) → cycle_does touches_by p s ≡ pick (cycle_does freezes_by p s) true (cycle_does releases_by p s)
unfolding cycle_does
cycle_either p s =
    let due = due_of s.memory in
    test (awake_of s.machine.mode due)
    (λ a. test (eqb due 0) (λ q. rw (a, q) (word_either (decode_of (at p s.machine.pc)) s.memory)) (λ q. rw (a, q))) (λ a. rw a)

pub touches_either : (p : List ℕ) (s : State) (e : ℕ) → touches_of p s e ≡ pick (freezes_of p s e) true (releases_of p s e)
unfolding touches_of freezes_of releases_of
touches_either p s e = test (eqb e 0x00) (λ z. rw z (cycle_either p s)) (λ z. rw z)
