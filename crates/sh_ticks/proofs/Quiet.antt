-- A quiet cycle: nothing is due, no read is pending and Timer0 has room. Awake, it is the word and a clock; in HALT, a clock.
use Rattle.std.specs.Prelude.{Err, Ok, Result}
use mathlib.Core.Path.{◌≡◌, ◌∙◌, refl, ap, sym}
use mathlib.Core.Bool.{true, false}
use mathlib.Core.List.{List}
use Prim.Native.Nat.{ℕ, ◌+◌, ◌%◌, ◌<◌}
use native.Mathlib.Omega.{arith}
use lib.Dec.{ltb, eqb}
use lib.Bits.{or_zero_r}
use lib.Seq.{set-get_or, get_or-set_other}
use borrow.Author.Tests.{eq-eqb, ne_eqb}
use Rattle.lent.specs.Lent.{at}
use Rattle.lent.proofs.Laws.{by_choice, by_test, never}
use Rattle.word.specs.declared.ImmediateOperation.{ImmediateOperation}
use Rattle.word.specs.declared.ImmediateOperation.TheVariants.{Adi, Adim, Sbi, Sbim, Eorim, Orim, Andim}
use Rattle.word.specs.declared.Instruction.TheVariants.{Accumulator, Memory, Lda, Sta, Immediate, Ldi, Branch, Call, Daa, Das, Rtnw, Rtni, Halt, Stop, Jmp, Shr, Tjmp, Nop}
use Rattle.word.specs.Word.{decode_of}
use Rattle.alu.specs.declared.Sum.{Sum}
use Rattle.sh_map.specs.Map.{askable_of}
use Rattle.sh_state.specs.declared.machine.Machine.{Machine}
use Rattle.sh_state.specs.Record.{set_pc, set_ac, set_cy, set_mode, set_pending, set_prescaler, set_counter}
use Rattle.sh_state.specs.State.{State, state}
use Rattle.sh_timers.specs.Request.{requested_of}
use Rattle.sh_interrupts.specs.Interrupt.{due_of, awake_of}
use Rattle.sh_execute.specs.Execute.{execute_of}
use Rattle.sh_cycle.specs.Cycle.{Happened, happened, read_taken_of, woken_of, landed_of, clock_of, finished_of, executed_of, instructed_of, awake_cycle_of, asleep_cycle_of, cycle_due_of, cycle_of}
use Rattle.sh_events.specs.Event.{event_of}
use Rattle.sh_core.specs.declared.Core.{Core}
use Rattle.sh_core.specs.Quick.{Quick, quickly, got_of, put_of, both_of, stored_of, immediate_on_of, instruction_on_of, word_on_of, cell_word_of, quick_of}
use Rattle.sh_core.specs.Quick.{core_in}
use Rattle.sh_ticks.specs.Clock.{Quiet, timed_of, room_of}
use Rattle.sh_core.proofs.Plain.{past_registers}
use Rattle.sh_core.proofs.Right.{done_of, quick_right}
use Rattle.sh_ticks.proofs.Ticks.{timed_more, clocked_core}
use Rattle.refusal.specs.declared.Refusal.{Refusal}
use Rattle.word.specs.declared.Instruction.{Instruction}

-- What a word leaves in the memory: where it did not go everything, and always what lies below $020.
module _ (c : Core) (l : List ℕ) where
  -- a word on cell a
  pub record Kept (a : ℕ) (q : Quick) : Type 0 where
    pub whole : q.core.went ≡ false → q.memory ≡ l
    pub other : (i : ℕ) → (i ≡ a → ⊥) → at q.memory i ≡ at l i

  still : (a : ℕ) (d : Core) → Kept a (quickly d l)
  still a d = record { whole = λ _. refl; other = λ i n. refl }

  module _ (a : ℕ) where
    put_kept : (r : Sum) → Kept a (put_of c l a r)
    unfolding put_of got_of
    put_kept r = record { whole = λ e. never (sym e); other = λ i n. get_or-set_other l a i _ 0 n }

    immediate_kept : (o : ImmediateOperation) (i : ℕ) → Kept a (immediate_on_of c l a o i)
    unfolding immediate_on_of both_of
    immediate_kept Adi i = still a _
    immediate_kept Adim i = put_kept _
    immediate_kept Sbi i = still a _
    immediate_kept Sbim i = put_kept _
    immediate_kept Eorim i = put_kept _
    immediate_kept Orim i = put_kept _
    immediate_kept Andim i = put_kept _

    word_kept : (d : Result Instruction Refusal) → Kept a (word_on_of c l a d)
    unfolding word_on_of instruction_on_of both_of stored_of
    word_kept (Err why) = still a _
    word_kept (Ok (Accumulator o x)) = still a _
    word_kept (Ok (Memory o x)) = put_kept _
    word_kept (Ok (Lda x)) = still a _
    word_kept (Ok (Sta x)) = put_kept _
    word_kept (Ok (Immediate o x i)) = immediate_kept o i
    word_kept (Ok (Ldi x i)) = put_kept _
    word_kept (Ok (Branch k t)) = still a _
    word_kept (Ok (Call t)) = still a _
    word_kept (Ok (Daa x)) = still a _
    word_kept (Ok (Das x)) = still a _
    word_kept (Ok (Rtnw h v)) = still a _
    word_kept (Ok Rtni) = still a _
    word_kept (Ok Halt) = still a _
    word_kept (Ok Stop) = still a _
    word_kept (Ok (Jmp t)) = still a _
    word_kept (Ok Shr) = still a _
    word_kept (Ok Tjmp) = still a _
    word_kept (Ok Nop) = still a _

  -- a word
  pub record Low (q : Quick) : Type 0 where
    pub whole : q.core.went ≡ false → q.memory ≡ l
    pub low : (i : ℕ) → i < 0x20 → at q.memory i ≡ at l i

  cell_low : (w a : ℕ) → Low (cell_word_of c l w a)
  unfolding cell_word_of
  cell_low w a =
      by_test Low (askable_of a) _ _
      (λ e. let k = word_kept a (decode_of w) in record { whole = k.whole; low = λ i h. k.other i (λ f. let p = past_registers a e in absurd (omega arith)) })
      (λ _. record { whole = λ _. refl; low = λ i h. refl })

  pub quick_low : (w : ℕ) → Low (quick_of c l w)
  unfolding quick_of
  quick_low w =
      by_choice Low (ltb w 0x4000) _ _ (cell_low w _)
      (by_choice Low (ltb w 0x8000) _ _ (cell_low w _) (record { whole = λ _. refl; low = λ i h. refl }))

-- no request leaves the memory
requested_none : (l : List ℕ) → requested_of l 0 ≡ l
unfolding requested_of
requested_none l = rw (or_zero_r (at l 0x01)) (set-get_or l 0x01 0)

-- A machine with no read pending.
module _ (m : Machine) (e : m.pending ≡ 0) (f : m.address ≡ 0) where
  taken_quiet : read_taken_of m ≡ m
  unfolding read_taken_of set_pending
  taken_quiet = ap (λ (v : ℕ). set_pending m v 0) (sym e) ∙ ap (λ (v : ℕ). set_pending m m.pending v) (sym f)

  woken_quiet : m.mode ≡ 0 → woken_of m ≡ m
  unfolding woken_of set_mode
  woken_quiet g = ap (λ (n : Machine). set_mode n 0) taken_quiet ∙ ap (λ (v : ℕ). set_mode m v) (sym g)

  finished_quiet : (p : List ℕ) (s : State) → finished_of p m s ≡ clock_of s
  unfolding finished_of landed_of
  finished_quiet p s = rw e

  -- the word of a cycle, and then Timer0's clock
  pub instructed_quiet : (p l : List ℕ) (d : Result Instruction Refusal) (t : State) → m.mode ≡ 0 → done_of (state m l) d ≡ happened false t → instructed_of p (state m l) d ≡ happened false (clock_of t)
  unfolding instructed_of executed_of done_of
  instructed_quiet p l (Ok i) t g h =
      rw (woken_quiet g, finished_quiet p (execute_of (state m l) i)) (ap (λ (r : Happened). happened false (clock_of r.after)) h)
  instructed_quiet p l (Err why) t g h = never (sym (ap (λ (r : Happened). r.stuck) h))

  pub awake_quiet : (p l : List ℕ) → m.mode ≡ 0 → due_of l ≡ 0 → cycle_of p (state m l) ≡ instructed_of p (state m l) (decode_of (at p m.pc))
  unfolding cycle_of cycle_due_of awake_of awake_cycle_of
  awake_quiet p l g h = rw (h, g)

  asleep_quiet : (p l : List ℕ) → m.mode ≡ 1 → due_of l ≡ 0 → cycle_of p (state m l) ≡ happened false (clock_of (state m l))
  unfolding cycle_of cycle_due_of awake_of asleep_cycle_of
  asleep_quiet p l g h =
      rw (h, ne_eqb m.mode 0 (omega arith), eq-eqb m.mode 1 g)
      (ap (λ (n : Machine). happened false (finished_of p m (state n l))) taken_quiet ∙ ap (λ (t : State). happened false t) (finished_quiet p (state m l)))

-- What stays of a machine over PC, AC, CY and Timer0's clocks.
module _ (m : Machine) (c : Core) (mode n : ℕ) where
  module _ (P : ℕ → Type 0) where
    pub timed_mode : P m.mode → P (timed_of m mode n).mode
    unfolding timed_of set_counter set_prescaler
    timed_mode h = by_choice (λ (k : Machine). P k.mode) (eqb (mode % 8) 7) _ _ h h

    pub timed_pending : P m.pending → P (timed_of m mode n).pending
    unfolding timed_of set_counter set_prescaler
    timed_pending h = by_choice (λ (k : Machine). P k.pending) (eqb (mode % 8) 7) _ _ h h

    pub timed_address : P m.address → P (timed_of m mode n).address
    unfolding timed_of set_counter set_prescaler
    timed_address h = by_choice (λ (k : Machine). P k.address) (eqb (mode % 8) 7) _ _ h h

module _ (m : Machine) (mode n : ℕ) (h : n < room_of m mode) (p : List ℕ) where
  -- a clock on the machine of a core
  pub clock_quiet : (c : Core) (l : List ℕ) → at l 0x02 ≡ mode → clock_of (state (core_in (timed_of m mode n) c) l) ≡ state (core_in (timed_of m mode (n + 1)) c) l
  unfolding clock_of
  clock_quiet c l e =
      rw (e, clocked_core (timed_of m mode n) c mode, timed_more m mode n h, requested_none l)

  clock_halted : (l : List ℕ) → at l 0x02 ≡ mode → clock_of (state (timed_of m mode n) l) ≡ state (timed_of m mode (n + 1)) l
  unfolding clock_of
  clock_halted l e = rw (e, timed_more m mode n h, requested_none l)

  -- awake, the word goes
  pub awake_step : (c : Core) (l : List ℕ) → Quiet m l mode → m.mode ≡ 0 → (quick_of c l (at p c.pc)).core.went ≡ true →
      happened false (state (core_in (timed_of m mode (n + 1)) (quick_of c l (at p c.pc)).core) (quick_of c l (at p c.pc)).memory) ≡ event_of p (state (core_in (timed_of m mode n) c) l) 0x00
  unfolding event_of core_in set_pc set_cy set_ac
  awake_step c l q g w =
      let k = core_in (timed_of m mode n) c in
      let r = quick_of c l (at p c.pc) in
      let e = timed_pending m c mode n (λ v. v ≡ 0) q.pending in
      let f = timed_address m c mode n (λ v. v ≡ 0) q.address in
      let z = timed_mode m c mode n (λ v. v ≡ 0) g in
      let b = (quick_low c l (at p c.pc)).low 0x02 (omega arith) ∙ q.timer in
      sym (awake_quiet k e f p l z q.due
      ∙ (instructed_quiet k e f p l (decode_of (at p c.pc)) _ z (quick_right (timed_of m mode n) c l (at p c.pc) w)
      ∙ ap (λ (t : State). happened false t) (clock_quiet r.core r.memory b)))

  -- in HALT
  pub halted_step : (l : List ℕ) → Quiet m l mode → m.mode ≡ 1 → happened false (state (timed_of m mode (n + 1)) l) ≡ event_of p (state (timed_of m mode n) l) 0x00
  unfolding event_of
  halted_step l q g =
      let c : Core = record { pc = 0; ac = 0; cy = 0; went = true } in
      let e = timed_pending m c mode n (λ v. v ≡ 0) q.pending in
      let f = timed_address m c mode n (λ v. v ≡ 0) q.address in
      let z = timed_mode m c mode n (λ v. v ≡ 1) g in
      sym (asleep_quiet (timed_of m mode n) e f p l z q.due ∙ ap (λ (t : State). happened false t) (clock_halted l q.timer))
