-- A turn leaves Timer0, the mode and what is pending, and a quiet cycle of it is the turn and a clock.
use mathlib.Core.Path.{◌≡◌, ◌∙◌, refl, ap, sym, subst}
use mathlib.Core.Bool.{Bool, true, false}
use mathlib.Core.List.{List}
use Prim.Native.Nat.{ℕ, ◌+◌, ◌/◌, ◌%◌, ◌<◌}
use native.Mathlib.Omega.{arith}
use lib.Dec.{ltb, eqb}
use lib.Seq.{get_or-set_other}
use Rattle.lent.specs.Lent.{at}
use Rattle.lent.proofs.Laws.{test, by_choice, by_test, never}
use Rattle.word.specs.Word.{decode_of}
use Rattle.alu.specs.declared.Sum.{Sum}
use Rattle.sh_map.specs.Map.{askable_of}
use Rattle.sh_state.specs.declared.machine.Machine.{Machine}
use Rattle.sh_state.specs.Record.{set_pc, set_ac, set_cy, set_stack, set_prescaler, set_counter, push_of, pop_of, newest_of}
use Rattle.sh_state.specs.State.{State, state}
use Rattle.sh_periods.specs.Periods.{ratio_of}
use Rattle.sh_interrupts.specs.Interrupt.{due_of}
use Rattle.sh_cycle.specs.Cycle.{happened}
use Rattle.sh_events.specs.Event.{event_of}
use Rattle.sh_core.specs.declared.Core.{Core}
use Rattle.sh_core.specs.Quick.{Quick, quickly, stays_of, got_of, gone_of, put_of}
use Rattle.sh_core.specs.Quick.{core_in}
use Rattle.sh_ticks.specs.Clock.{Quiet, clocks_of, timed_of, room_of}
use Rattle.sh_turn.specs.Turn.{Turn, turn, turning, shown_of, readable_of, writable_of, put_masked_of, put_register_of, takes_of, ac_word_of, immediate_word_of, cell_turn_of, adjusted_of, decimal_of, other_turn_of, called_of, returned_of, returned_with_of, alone_of, turn_of}
use Rattle.sh_core.proofs.Plain.{past_registers}
use Rattle.sh_turn.proofs.Turns.{writable, Turns, turn_right}
use Rattle.sh_ticks.proofs.Quiet.{timed_mode, timed_pending, timed_address, awake_quiet, instructed_quiet, clock_quiet}

-- what a turn leaves of the machine
pub record Same (m k : Machine) : Type 0 where
  pub counter : k.counter ≡ m.counter
  pub prescaler : k.prescaler ≡ m.prescaler
  pub mode : k.mode ≡ m.mode
  pub pending : k.pending ≡ m.pending
  pub address : k.address ≡ m.address

-- and of the memory: everything where it did not go, and always Timer0's mode
pub record Leaves (l : List ℕ) (went : Bool) (t : List ℕ) : Type 0 where
  pub whole : went ≡ false → t ≡ l
  pub timer : at t 0x02 ≡ at l 0x02

module _ (c : Core) (l : List ℕ) where
  Left : Quick → Type 0
  Left q = Leaves l q.core.went q.memory

  still : (d : Core) → Left (quickly d l)
  unfolding Left
  still d = record { whole = λ _. refl; timer = refl }

  register_left : (a : ℕ) (r : Sum) → Left (put_register_of c l a r)
  unfolding Left put_register_of put_masked_of got_of
  register_left a r =
      by_test Left (writable_of a) _ _
      (λ e. record { whole = λ f. never (sym f); timer = get_or-set_other l a 0x02 _ 0 (λ f. (writable a e).mode (sym f)) })
      (λ _. still (stays_of c))

  takes_left : (a : ℕ) (r : Sum) (writes : Bool) → Left (takes_of c l a r writes)
  unfolding takes_of
  takes_left a r writes = by_choice Left writes _ _ (register_left a r) (still _)

  put_left : (a : ℕ) (r : Sum) → askable_of a ≡ true → Left (put_of c l a r)
  unfolding Left put_of got_of
  put_left a r e = record { whole = λ f. never (sym f); timer = get_or-set_other l a 0x02 _ 0 (λ f. let p = past_registers a e in absurd (omega arith)) }

  other_left : (m : Machine) (w : ℕ) → Left (other_turn_of m c l w)
  unfolding other_turn_of cell_turn_of ac_word_of immediate_word_of decimal_of adjusted_of
  other_left m w =
      by_choice Left (ltb w 0x8000) _ _
      (by_choice Left (ltb w 0x4000) _ _
      (by_choice Left (readable_of _) _ _ (takes_left _ _ _) (still _))
      (by_choice Left (readable_of _) _ _ (takes_left _ _ _) (still _)))
      (by_choice Left (eqb (w / 2048) 25) _ _
      (by_test Left (askable_of _) _ _ (λ e. by_choice Left (eqb (w / 128) 0x196) _ _ (put_left _ _ e) (by_choice Left (eqb (w / 128) 0x19A) _ _ (put_left _ _ e) (still _))) (λ _. still _))
      (by_choice Left (eqb w 0xF7FF) _ _ (still _) (still _)))

module _ (m : Machine) (c : Core) (l : List ℕ) (w : ℕ) where
  same : Same m m
  same = record { counter = refl; prescaler = refl; mode = refl; pending = refl; address = refl }

  pushed : (v : ℕ) → Same m (push_of m v)
  unfolding push_of set_stack
  pushed v = record { counter = refl; prescaler = refl; mode = refl; pending = refl; address = refl }

  popped : Same m (pop_of m)
  unfolding pop_of set_stack
  popped = record { counter = refl; prescaler = refl; mode = refl; pending = refl; address = refl }

  pub turn_same : Same m (turn_of m c l w).machine
  unfolding turn_of called_of returned_of returned_with_of alone_of
  turn_same =
      let P : Turn → Type 0 = λ t. Same m t.machine in
      by_choice P (eqb (w / 2048) 24) _ _ (pushed _)
      (by_choice P (eqb w 0xD400) _ _ popped
      (by_choice P (eqb (w / 256) 0xD0) _ _ popped same))

  pub turn_left : Leaves l (turn_of m c l w).core.went (turn_of m c l w).memory
  unfolding turn_of called_of returned_of returned_with_of alone_of Left
  turn_left =
      let P : Turn → Type 0 = λ t. Leaves l t.core.went t.memory in
      by_choice P (eqb (w / 2048) 24) _ _ (record { whole = λ _. refl; timer = refl })
      (by_choice P (eqb w 0xD400) _ _ (record { whole = λ _. refl; timer = refl })
      (by_choice P (eqb (w / 256) 0xD0) _ _ (record { whole = λ f. never (sym f); timer = get_or-set_other l 0x0E 0x02 _ 0 (λ f. omega arith) }) (other_left c l m w)))

  -- a word that did not go left the machine
  pub turn_unmoved : (turn_of m c l w).core.went ≡ false → (turn_of m c l w).machine ≡ m
  unfolding turn_of called_of gone_of returned_of returned_with_of alone_of
  turn_unmoved =
      let P : Turn → Type 0 = λ t. t.core.went ≡ false → t.machine ≡ m in
      by_choice P (eqb (w / 2048) 24) _ _ (λ f. never (sym f))
      (by_choice P (eqb w 0xD400) _ _ (λ f. never (sym f))
      (by_choice P (eqb (w / 256) 0xD0) _ _ (λ f. never (sym f)) (λ _. refl)))

  -- Timer0's state goes with the machine
  module _ (u v : ℕ) where
    clk : Machine → Machine
    clk k = set_counter (set_prescaler k u) v

    clk_other : other_turn_of (clk m) c l w ≡ other_turn_of m c l w
    unfolding clk other_turn_of cell_turn_of ac_word_of immediate_word_of shown_of set_counter set_prescaler
    clk_other = refl

    called : turning (called_of (clk m) c (w % 2048)) l ≡ turn (clk (called_of m c (w % 2048)).machine) (called_of m c (w % 2048)).core l
    unfolding clk called_of push_of set_stack set_counter set_prescaler
    called = refl

    back : turning (returned_of (clk m) c) l ≡ turn (clk (returned_of m c).machine) (returned_of m c).core l
    unfolding clk returned_of pop_of newest_of set_stack set_counter set_prescaler
    back = refl

    with_value : returned_with_of (clk m) c l (w / 16 % 16) (w % 16) ≡ turn (clk (returned_with_of m c l (w / 16 % 16) (w % 16)).machine) (returned_with_of m c l (w / 16 % 16) (w % 16)).core (returned_with_of m c l (w / 16 % 16) (w % 16)).memory
    unfolding clk returned_with_of pop_of newest_of set_stack set_counter set_prescaler
    with_value = refl

    alone : alone_of (clk m) (other_turn_of (clk m) c l w) ≡ turn (clk (alone_of m (other_turn_of m c l w)).machine) (alone_of m (other_turn_of m c l w)).core (alone_of m (other_turn_of m c l w)).memory
    unfolding alone_of
    alone = ap (λ (q : Quick). turn (clk m) q.core q.memory) clk_other

    clk_turn : turn_of (clk m) c l w ≡ turn (clk (turn_of m c l w).machine) (turn_of m c l w).core (turn_of m c l w).memory
    unfolding turn_of
    clk_turn =
        test (eqb (w / 2048) 24) (λ b. rw b called)
        (λ b. rw b (test (eqb w 0xD400) (λ k. rw k back)
        (λ k. rw k (test (eqb (w / 256) 0xD0) (λ j. rw j with_value) (λ j. rw j alone)))))

  turn_clocks : (r n : ℕ) → clocks_of m r n ≡ clocks_of (turn_of m c l w).machine r n
  unfolding clocks_of
  turn_clocks r n = rw (turn_same.counter, turn_same.prescaler)

  turn_timed : (mode n : ℕ) → turn_of (timed_of m mode n) c l w ≡ turn (timed_of (turn_of m c l w).machine mode n) (turn_of m c l w).core (turn_of m c l w).memory
  unfolding timed_of clk
  turn_timed mode n =
      let t = turn_of m c l w in
      let r = ratio_of mode in
      test (eqb (mode % 8) 7) (λ b. rw b)
      (λ b. rw b (clk_turn (clocks_of m r n % r) (clocks_of m r n / r) ∙ ap (λ (k : ℕ). turn (set_counter (set_prescaler t.machine (k % r)) (k / r)) t.core t.memory) (turn_clocks r n)))

  pub turn_room : (mode : ℕ) → room_of (turn_of m c l w).machine mode ≡ room_of m mode
  unfolding room_of clocks_of
  turn_room mode = rw (turn_same.counter, turn_same.prescaler)

  pub turn_quiet : (mode : ℕ) → Quiet m l mode → due_of (turn_of m c l w).memory ≡ 0 → Quiet (turn_of m c l w).machine (turn_of m c l w).memory mode
  turn_quiet mode q d = record { pending = turn_same.pending ∙ q.pending; address = turn_same.address ∙ q.address; due = d; timer = turn_left.timer ∙ q.timer }

-- a quiet cycle that is a turn
pub turn_step : (m : Machine) (mode n : ℕ) → n < room_of m mode → (p : List ℕ) (c : Core) (l : List ℕ) → Quiet m l mode → m.mode ≡ 0 → (turn_of m c l (at p c.pc)).core.went ≡ true →
    happened false (state (core_in (timed_of (turn_of m c l (at p c.pc)).machine mode (n + 1)) (turn_of m c l (at p c.pc)).core) (turn_of m c l (at p c.pc)).memory) ≡ event_of p (state (core_in (timed_of m mode n) c) l) 0x00
unfolding event_of core_in set_pc set_cy set_ac Turns
turn_step m mode n h p c l q g w =
    let k = core_in (timed_of m mode n) c in
    let v = at p c.pc in
    let t = turn_of m c l v in
    let e = timed_pending m c mode n (λ v. v ≡ 0) q.pending in
    let f = timed_address m c mode n (λ v. v ≡ 0) q.address in
    let z = timed_mode m c mode n (λ v. v ≡ 0) g in
    let d = subst (λ (u : Turn). Turns (timed_of m mode n) c l v u) (turn_timed m c l v mode n) (turn_right (timed_of m mode n) c l v) w in
    let j : n < room_of t.machine mode = rw (turn_room m c l v mode) h in
    sym (awake_quiet k e f p l z q.due
    ∙ (instructed_quiet k e f p l (decode_of v) _ z d
    ∙ ap (λ (s : State). happened false s) (clock_quiet t.machine mode n j p t.core t.memory ((turn_left m c l v).timer ∙ q.timer))))
