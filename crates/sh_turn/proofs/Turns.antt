-- A turn does to the machine what its instruction does.
use Rattle.std.specs.Prelude.{Ok}
use mathlib.Core.Path.{◌≡◌, ◌∙◌, refl, ap, sym}
use mathlib.Core.Bool.{Bool, true, false}
use mathlib.Core.List.{List}
use Prim.Native.Nat.{ℕ, ◌+◌, ◌/◌, ◌%◌, ◌<◌, ◌≤◌}
use native.Mathlib.Omega.{arith}
use lib.Dec.{ltb, eqb}
use lib.ListN.{set}
use borrow.Author.Tests.{lt-ltb, eq-eqb, ne_eqb, eqb-true, ltb-false}
use Rattle.lent.specs.Lent.{pick, at}
use Rattle.lent.proofs.Laws.{test, by_test, by_eq, by_lt, never}
use Rattle.word.proofs.Every.{every, every_at}
use Rattle.word.specs.declared.Operation.{Operation}
use Rattle.word.specs.declared.Instruction.{Instruction}
use Rattle.word.specs.declared.Instruction.TheVariants.{Accumulator, Memory, Lda, Sta, Immediate, Ldi, Call, Daa, Das, Rtnw, Rtni, Tjmp}
use Rattle.word.specs.Codes.{operation_of, immediate_of}
use Rattle.word.specs.Word.{decode_of, accumulator_of, transfer_of, control_of}
use Rattle.alu.specs.declared.Sum.{Sum}
use Rattle.alu.specs.Alu.{calculated_of, loaded_of, decimal_added_of, decimal_subtracted_of}
use Rattle.sh_map.specs.Map.{kind_of, written_in, written_of, register_written, askable_of}
use Rattle.sh_state.specs.declared.machine.Machine.{Machine}
use Rattle.sh_state.specs.Record.{set_pc, set_ac, set_cy, set_stack, push_of, pop_of, newest_of}
use Rattle.sh_state.specs.State.{State, state}
use Rattle.sh_cells.specs.Cells.{port_of, plain_in, plain_of, value_of, seen_of, read_of, target_of}
use Rattle.sh_writes.specs.Writes.{kept_of, noticed_of, write_of}
use Rattle.sh_execute.specs.Execute as execute
use Rattle.sh_execute.specs.Execute.{took_of, accumulated_of, load_of, accumulator_form_of, memory_form_of, lda_of, sta_of, ldi_of, with_immediate_of, stored_immediate_of, immediate_form_of, daa_of, das_of, call_of, rtnw_of, rtni_of, tjmp_of, execute_of}
use Rattle.sh_cycle.specs.Cycle.{happened}
use Rattle.sh_core.specs.declared.Core.{Core}
use Rattle.sh_core.specs.Quick.{Quick, quickly, stays_of, got_of, gone_of, put_of}
use Rattle.sh_core.specs.Quick.{core_in}
use Rattle.sh_turn.specs.Turn.{Turn, turning, shown_of, mask_of, readable_of, writable_of, put_masked_of, put_register_of, takes_of, code_of, writes_of, transferred_of, ac_result_of, immediate_result_of, ac_word_of, immediate_word_of, cell_turn_of, adjusted_of, decimal_of, table_of, other_turn_of, called_of, returned_of, returned_with_of, alone_of, turn_of}
use Rattle.sh_core.proofs.Plain.{value_plain, seen_plain}
use Rattle.sh_core.proofs.Words.{past}
use Rattle.sh_core.proofs.Right.{done_of, inside, took_core, put_right, low_word, middle_word, stays_never}

-- Registers whose read does nothing.
pub record Readable (a : ℕ) : Type 0 where
  pub low : a < 0x20
  pub low_nibble : a ≡ 0x04 → ⊥
  pub high_nibble : a ≡ 0x05 → ⊥
  pub watchdog : a ≡ 0x1E → ⊥

readable : (a : ℕ) → readable_of a ≡ true → Readable a
unfolding readable_of
readable a =
    let Is : Bool → Type 0 = λ b. b ≡ true → Readable a in
    by_lt Is a 0x20 _ _
    (λ h. by_eq Is a 0x04 _ _ (λ _. never) (λ i. by_eq Is a 0x05 _ _ (λ _. never) (λ j. by_eq Is a 0x1E _ _ (λ _. never) (λ k _. record { low = h; low_nibble = i; high_nibble = j; watchdog = k }))))
    (λ _. never)

pub record Writable (a : ℕ) : Type 0 where
  pub mode : a ≡ 0x02 → ⊥
  pub base : a ≡ 0x03 → ⊥
  pub low : a ≡ 0x04 → ⊥
  pub high : a ≡ 0x05 → ⊥
  pub read : a ≡ 0x1A → ⊥
  pub watchdog : a ≡ 0x1E → ⊥

pub writable : (a : ℕ) → writable_of a ≡ true → Writable a
unfolding writable_of
writable a =
    let Is : Bool → Type 0 = λ b. b ≡ true → Writable a in
    by_lt Is a 0x02 _ _
    (λ h _. record { mode = λ e. omega arith; base = λ e. omega arith; low = λ e. omega arith; high = λ e. omega arith; read = λ e. omega arith; watchdog = λ e. omega arith })
    (λ _. by_lt Is a 0x06 _ _ (λ _. never)
    (λ h. by_eq Is a 0x1A _ _ (λ _. never) (λ i. by_eq Is a 0x1E _ _ (λ _. never)
    (λ j _. record { mode = λ e. omega arith; base = λ e. omega arith; low = λ e. omega arith; high = λ e. omega arith; read = i; watchdog = j }))))

-- the bits that a write stores, of all 32
mask_right : ℕ → Bool
mask_right a = pick (writable_of a) (eqb (mask_of a) (at register_written a)) true

masks : every mask_right 5 0 ≡ true
unfolding every mask_right mask_of writable_of register_written
masks = refl

written_mask : (a : ℕ) → a < 0x20 → writable_of a ≡ true → written_of a ≡ mask_of a
unfolding written_of written_in kind_of mask_right
written_mask a h e =
    let z : 0 + a ≡ a = omega arith in
    let t : pick (writable_of a) (eqb (mask_of a) (at register_written a)) true ≡ true = rw z at (every_at mask_right 5 0 a masks h) in
    rw (lt-ltb a 0x20 h) (sym (eqb-true (mask_of a) (at register_written a) (rw e at t)))

-- a machine with PC, AC and CY has the pins
shown_core : (m : Machine) (c : Core) (l : List ℕ) (a : ℕ) → shown_of (core_in m c) l a ≡ shown_of m l a
unfolding shown_of core_in set_pc set_cy set_ac
shown_core m c l a = refl

module _ (a : ℕ) (r : Readable a) where
  value_shown : (m : Machine) (l : List ℕ) → value_of (state m l) a ≡ shown_of m l a
  unfolding value_of shown_of plain_of plain_in kind_of
  value_shown m l = rw (ne_eqb a 0x04 r.low_nibble, ne_eqb a 0x05 r.high_nibble, lt-ltb a 0x20 r.low)

  seen_same : (s : State) → seen_of s a ≡ s.machine
  unfolding seen_of
  seen_same s = rw (ne_eqb a 0x04 r.low_nibble, ne_eqb a 0x05 r.high_nibble, ne_eqb a 0x1E r.watchdog)

  write_masked : (s : State) (v : ℕ) → writable_of a ≡ true → write_of s a v ≡ state s.machine (set s.memory a (port_of (at s.memory a) v (mask_of a)))
  unfolding write_of noticed_of kept_of port_of
  write_masked s v e =
      let w = writable a e in
      rw (ne_eqb a 0x02 w.mode, ne_eqb a 0x03 w.base, ne_eqb a 0x04 w.low, ne_eqb a 0x05 w.high, ne_eqb a 0x1A w.read, ne_eqb a 0x1E w.watchdog, written_mask a r.low e)

-- An instruction on such a register.
module _ (m : Machine) (c : Core) (l : List ℕ) (a : ℕ) (e : Readable a) where
  Goes : State → Quick → Type 0
  Goes s q = q.core.went ≡ true → s ≡ inside m q

  register_put : (r : Sum) → Goes (execute.put_of (state (core_in m c) l) a r) (put_register_of c l a r)
  unfolding Goes execute.put_of put_register_of put_masked_of
  register_put r =
      by_test (λ (q : Quick). q.core.went ≡ true → write_of (state (took_of (core_in m c) r) l) a r.value ≡ inside m q) (writable_of a) _ _
      (λ w _. rw (took_core m c r) (write_masked a e (state (core_in m (got_of c r)) l) r.value w))
      (λ _. stays_never m c l)

  register_only : (o : Operation) (y : ℕ) → accumulated_of (state (core_in m c) l) o y a ≡ core_in m (got_of c (calculated_of o (shown_of m l a) y c.cy))
  unfolding accumulated_of read_of core_in set_pc set_cy set_ac
  register_only o y =
      rw (value_shown a e (core_in m c) l, seen_same a e (state (core_in m c) l), shown_core m c l a) (took_core m c _)

  register_both : (o : Operation) (y : ℕ) → Goes (execute.stored_of (state (core_in m c) l) o y a) (put_register_of c l a (calculated_of o (shown_of m l a) y c.cy))
  unfolding execute.stored_of read_of core_in set_pc set_cy set_ac
  register_both o y =
      rw (value_shown a e (core_in m c) l, seen_same a e (state (core_in m c) l), shown_core m c l a) (register_put _)

  register_load : load_of (state (core_in m c) l) a ≡ core_in m (got_of c (loaded_of (shown_of m l a) c.cy))
  unfolding load_of read_of core_in set_pc set_cy set_ac
  register_load =
      rw (value_shown a e (core_in m c) l, seen_same a e (state (core_in m c) l), shown_core m c l a) (took_core m c _)

-- A word on such a register.
module _ (m : Machine) (c : Core) (l : List ℕ) (w : ℕ) where
  pub Does : Quick → Type 0
  Does q = q.core.went ≡ true → done_of (state (core_in m c) l) (decode_of w) ≡ happened false (inside m q)

  by_listed : (i : Instruction) (q : Quick) → decode_of w ≡ Ok i → (q.core.went ≡ true → execute_of (state (core_in m c) l) i ≡ inside m q) → Does q
  unfolding Does done_of
  by_listed i q d f g = rw d (ap (λ (s : State). happened false s) (f g))

  ac_does : w < 0x4000 → Readable (target_of l (w % 1024)) → Does (takes_of c l (target_of l (w % 1024)) (ac_result_of c (shown_of m l (target_of l (w % 1024))) w) (eqb (w / 1024 % 2) 1))
  unfolding takes_of ac_result_of transferred_of accumulator_of transfer_of Goes execute_of accumulator_form_of memory_form_of lda_of sta_of core_in set_pc set_cy set_ac
  ac_does h e =
      let a = target_of l (w % 1024) in
      test (ltb (w / 2048) 7)
      (λ b. test (eqb (w / 1024 % 2) 1)
      (λ k. rw (b, k) (by_listed (Memory (operation_of (w / 2048)) (w % 1024)) _ (low_word w h ∙ rw (b, k)) (register_both m c l a e (operation_of (w / 2048)) c.ac)))
      (λ k. rw (b, k) (by_listed (Accumulator (operation_of (w / 2048)) (w % 1024)) _ (low_word w h ∙ rw (b, k)) (λ _. ap (λ (n : Machine). state n l) (register_only m c l a e (operation_of (w / 2048)) c.ac)))))
      (λ b. test (eqb (w / 1024 % 2) 1)
      (λ k. rw (b, k) (by_listed (Sta (w % 1024)) _ (low_word w h ∙ rw (b, k)) (register_put m c l a e (loaded_of c.ac c.cy))))
      (λ k. rw (b, k) (by_listed (Lda (w % 1024)) _ (low_word w h ∙ rw (b, k)) (λ _. ap (λ (n : Machine). state n l) (register_load m c l a e)))))

  module _ (e : Readable (target_of l (w % 128))) where
    -- an immediate form by its code
    immediate_does : (n : ℕ) (i : ℕ) → let a = target_of l (w % 128) in Goes m c l a e (execute_of (state (core_in m c) l) (Immediate (immediate_of n) (w % 128) i)) (takes_of c l a (calculated_of (code_of n) (shown_of m l a) i c.cy) (writes_of n))
    unfolding takes_of code_of writes_of immediate_of Goes execute_of immediate_form_of with_immediate_of stored_immediate_of
    immediate_does n i =
        let a = target_of l (w % 128) in
        test (eqb n 8) (λ b. rw b (λ _. ap (λ (k : Machine). state k l) (register_only m c l a e Operation.Add i)))
        (λ b8. test (eqb n 9) (λ b. let f = eqb-true n 9 b in rw f (register_both m c l a e Operation.Add i))
        (λ b9. test (eqb n 10) (λ b. let f = eqb-true n 10 b in rw f (λ _. ap (λ (k : Machine). state k l) (register_only m c l a e Operation.Sub i)))
        (λ b10. test (eqb n 11) (λ b. let f = eqb-true n 11 b in rw f (register_both m c l a e Operation.Sub i))
        (λ b11. test (eqb n 12) (λ b. let f = eqb-true n 12 b in rw f (register_both m c l a e Operation.Eor i))
        (λ b12. test (eqb n 13) (λ b. let f = eqb-true n 13 b in rw f (register_both m c l a e Operation.Or i))
        (λ b13. rw (b8, b9, b10, b11, b12, b13) (register_both m c l a e Operation.And i)))))))

    ldi_does : (i : ℕ) → let a = target_of l (w % 128) in Goes m c l a e (execute_of (state (core_in m c) l) (Ldi (w % 128) i)) (put_register_of c l a (loaded_of i c.cy))
    unfolding Goes execute_of ldi_of core_in set_pc set_cy set_ac
    ldi_does i = register_put m c l (target_of l (w % 128)) e (loaded_of i c.cy)

    ldi_takes : w / 2048 ≡ 15 → Does (put_register_of c l (target_of l (w % 128)) (loaded_of (w / 128 % 16) c.cy)) → Does (takes_of c l (target_of l (w % 128)) (loaded_of (w / 128 % 16) c.cy) (writes_of (w / 2048)))
    unfolding takes_of writes_of
    ldi_takes k p = rw (ne_eqb (w / 2048) 8 (omega arith), ne_eqb (w / 2048) 10 (omega arith)) p

    immediates_do : 0x4000 ≤ w → w < 0x8000 → Does (takes_of c l (target_of l (w % 128)) (immediate_result_of c (shown_of m l (target_of l (w % 128))) w) (writes_of (w / 2048)))
    unfolding immediate_result_of Goes
    immediates_do g h =
        let a = target_of l (w % 128) in
        test (ltb (w / 2048) 15)
        (λ b. rw b (by_listed (Immediate (immediate_of (w / 2048)) (w % 128) (w / 128 % 16)) _ (middle_word w g h ∙ rw b) (immediate_does (w / 2048) (w / 128 % 16))))
        (λ b. let k : w / 2048 ≡ 15 = omega (arith, ltb-false (w / 2048) 15 b) in rw b (ldi_takes k (by_listed (Ldi (w % 128) (w / 128 % 16)) _ (middle_word w g h ∙ rw b) (ldi_does (w / 128 % 16)))))

  -- the words that are on registers
  stays_does : Does (quickly (stays_of c) l)
  unfolding Does
  stays_does = stays_never m c l

  cells_do : w < 0x8000 → Does (cell_turn_of m c l w)
  unfolding cell_turn_of ac_word_of immediate_word_of
  cells_do h =
      by_lt Does w 0x4000 _ _
      (λ g. by_test Does (readable_of (target_of l (w % 1024))) _ _ (λ e. ac_does g (readable _ e)) (λ _. stays_does))
      (λ g. by_test Does (readable_of (target_of l (w % 128))) _ _ (λ e. immediates_do (readable _ e) g h) (λ _. stays_does))

  -- DAA and DAS
  module _ (e : askable_of (target_of l (w % 128)) ≡ true) where
    daa_does : execute_of (state (core_in m c) l) (Daa (w % 128)) ≡ inside m (put_of c l (target_of l (w % 128)) (decimal_added_of (at l (target_of l (w % 128))) c.cy))
    unfolding execute_of daa_of read_of core_in set_pc set_cy set_ac
    daa_does = rw (value_plain (state (core_in m c) l) (target_of l (w % 128)) e, seen_plain (state (core_in m c) l) (target_of l (w % 128)) e) (put_right m c l (target_of l (w % 128)) e _)

    das_does : execute_of (state (core_in m c) l) (Das (w % 128)) ≡ inside m (put_of c l (target_of l (w % 128)) (decimal_subtracted_of (at l (target_of l (w % 128))) c.cy))
    unfolding execute_of das_of read_of core_in set_pc set_cy set_ac
    das_does = rw (value_plain (state (core_in m c) l) (target_of l (w % 128)) e, seen_plain (state (core_in m c) l) (target_of l (w % 128)) e) (put_right m c l (target_of l (w % 128)) e _)

    adjusted_does : w / 2048 ≡ 25 → Does (adjusted_of c l w (target_of l (w % 128)))
    unfolding adjusted_of control_of
    adjusted_does h =
        by_eq Does (w / 128) 0x196 _ _
        (λ f. by_listed (Daa (w % 128)) _ (past c w (omega arith) ∙ rw (ne_eqb (w / 2048) 24 (omega arith), ne_eqb (w / 4096) 14 (omega arith), eq-eqb (w / 128) 0x196 f)) (λ _. daa_does))
        (λ g. by_eq Does (w / 128) 0x19A _ _
        (λ f. by_listed (Das (w % 128)) _ (past c w (omega arith) ∙ rw (ne_eqb (w / 2048) 24 (omega arith), ne_eqb (w / 4096) 14 (omega arith), ne_eqb (w / 128) 0x196 g, eq-eqb (w / 128) 0x19A f)) (λ _. das_does))
        (λ _. stays_does))

  tjmp_does : w ≡ 0xF7FF → Does (quickly (gone_of c (table_of c l)) l)
  unfolding table_of execute_of tjmp_of decode_of control_of core_in set_pc set_cy set_ac gone_of
  tjmp_does f = by_listed Tjmp _ (rw f) (λ _. refl)

  pub other_does : Does (other_turn_of m c l w)
  unfolding other_turn_of decimal_of
  other_does =
      by_lt Does w 0x8000 _ _ cells_do
      (λ _. by_eq Does (w / 2048) 25 _ _
      (λ h. by_test Does (askable_of (target_of l (w % 128))) _ _ (λ e. adjusted_does e h) (λ _. stays_does))
      (λ _. by_eq Does w 0xF7FF _ _ tjmp_does (λ _. stays_does)))

  -- all of them
  unfoldable pub Turns : Turn → Type 0
  Turns t = t.core.went ≡ true → done_of (state (core_in m c) l) (decode_of w) ≡ happened false (state (core_in t.machine t.core) t.memory)

  turn_listed : (i : Instruction) (t : Turn) → decode_of w ≡ Ok i → execute_of (state (core_in m c) l) i ≡ state (core_in t.machine t.core) t.memory → Turns t
  unfolding Turns done_of
  turn_listed i t d f _ = rw d (ap (λ (s : State). happened false s) f)

  call_turns : w / 2048 ≡ 24 → Turns (turning (called_of m c (w % 2048)) l)
  unfolding execute_of call_of called_of gone_of core_in push_of set_stack set_pc set_cy set_ac
  call_turns h = turn_listed (Call (w % 2048)) _ (past c w (omega arith) ∙ rw (eq-eqb (w / 2048) 24 h)) refl

  rtni_turns : w ≡ 0xD400 → Turns (turning (returned_of m c) l)
  unfolding execute_of rtni_of returned_of core_in pop_of newest_of set_stack set_pc set_cy set_ac decode_of control_of
  rtni_turns h = turn_listed Rtni _ (rw h) refl

  rtnw_turns : w / 256 ≡ 0xD0 → Turns (returned_with_of m c l (w / 16 % 16) (w % 16))
  unfolding execute_of rtnw_of returned_with_of core_in pop_of newest_of set_stack set_pc set_cy set_ac control_of
  rtnw_turns h = turn_listed (Rtnw (w / 16 % 16) (w % 16)) _ (past c w (omega arith) ∙ rw (ne_eqb (w / 2048) 24 (omega arith), ne_eqb (w / 4096) 14 (omega arith), ne_eqb (w / 128) 0x196 (omega arith), ne_eqb (w / 128) 0x19A (omega arith), eq-eqb (w / 256) 0xD0 h)) refl

  pub turn_right : Turns (turn_of m c l w)
  unfolding turn_of alone_of Turns Does
  turn_right =
      by_eq Turns (w / 2048) 24 _ _ call_turns
      (λ _. by_eq Turns w 0xD400 _ _ rtni_turns
      (λ _. by_eq Turns (w / 256) 0xD0 _ _ rtnw_turns (λ _. other_does)))
