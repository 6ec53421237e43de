-- A word that goes does to PC, AC, CY and the memory what its instruction does to the machine, and leaves the rest of it.
use Rattle.std.specs.Prelude.{Err, Ok, Result}
use mathlib.Core.Path.{◌≡◌, refl, ap}
use mathlib.Core.Bool.{Bool, true, false}
use mathlib.Core.List.{List}
use Prim.Native.Nat.{ℕ, ◌/◌, ◌%◌, ◌<◌, ◌≤◌}
use native.Mathlib.Omega.{arith}
use lib.Dec.{ltb, eqb}
use borrow.Author.Tests.{lt-ltb, le-ltb, eq-eqb, ne_eqb}
use Rattle.lent.specs.Lent.{pick}
use Rattle.lent.proofs.Laws.{by_choice, by_test, by_lt, never}
use Rattle.word.specs.declared.Operation.{Operation}
use Rattle.word.specs.declared.ImmediateOperation.{ImmediateOperation}
use Rattle.word.specs.declared.ImmediateOperation.TheVariants.{Adi, Adim, Sbi, Sbim, Eorim, Orim, Andim}
use Rattle.word.specs.declared.Condition.{Condition}
use Rattle.word.specs.declared.Instruction.{Instruction}
use Rattle.word.specs.declared.Instruction.TheVariants.{Accumulator, Memory, Lda, Sta, Immediate, Ldi, Branch, Call, Daa, Das, Rtnw, Rtni, Halt, Stop, Jmp, Shr, Tjmp, Nop}
use Rattle.word.specs.Codes.{immediate_of}
use Rattle.word.specs.Word.{decode_of, accumulator_of, transfer_of}
use Rattle.alu.specs.declared.Sum.{Sum}
use Rattle.alu.specs.Alu.{shifted_right_of}
use Rattle.sh_map.specs.Map.{askable_of}
use Rattle.sh_state.specs.declared.machine.Machine.{Machine}
use Rattle.sh_state.specs.Record.{set_pc, set_ac, set_cy}
use Rattle.sh_state.specs.State.{State, state}
use Rattle.sh_cells.specs.Cells.{target_of, read_of}
use Rattle.sh_execute.specs.Execute as execute
use Rattle.sh_execute.specs.Execute.{next_of, within_of, onward_of, took_of, accumulated_of, load_of, accumulator_form_of, memory_form_of, lda_of, sta_of, ldi_of, with_immediate_of, stored_immediate_of, immediate_form_of, taken_of, branch_if_of, branch_of, shr_of, execute_of}
use Rattle.sh_cycle.specs.Cycle.{Happened, happened}
use Rattle.sh_core.specs.declared.Core.{Core}
use Rattle.sh_core.specs.Quick.{Quick, quickly, stays_of, got_of, gone_of, put_of, only_of, both_of, cell_of, stored_of, immediate_on_of, instruction_on_of, word_on_of, cell_word_of, branched_of, instruction_of, other_word_of, quick_of}
use Rattle.sh_core.specs.Quick.{core_in}
use Rattle.sh_core.proofs.Plain.{value_plain, seen_plain, write_plain}
use Rattle.refusal.specs.declared.Refusal.{Refusal}

-- what a decoded word does, before the cycle's (d) and (e)
unfoldable pub done_of : State → Result Instruction Refusal → Happened
done_of s (Ok i) = happened false (execute_of s i)
done_of s (Err why) = happened true s

-- a quick word's outcome in a machine
abbrev pub inside : Machine → Quick → State
inside m q = state (core_in m q.core) q.memory

module _ (m : Machine) (c : Core) where
  pub took_core : (r : Sum) → took_of (core_in m c) r ≡ core_in m (got_of c r)
  unfolding core_in took_of onward_of got_of set_pc set_cy set_ac
  took_core r = refl

  pub gone_core : (pc : ℕ) → set_pc (core_in m c) pc ≡ core_in m (gone_of c pc)
  unfolding core_in gone_of set_pc set_cy set_ac
  gone_core pc = refl

-- An instruction on a cell a that is data, display or scan.
module _ (m : Machine) (c : Core) (l : List ℕ) (a : ℕ) (e : askable_of a ≡ true) where
  pub put_right : (r : Sum) → execute.put_of (state (core_in m c) l) a r ≡ inside m (put_of c l a r)
  unfolding execute.put_of put_of
  put_right r = rw (took_core m c r) (write_plain (state (core_in m (got_of c r)) l) a e r.value)

  only_right : (o : Operation) (y : ℕ) → accumulated_of (state (core_in m c) l) o y a ≡ core_in m (only_of c l a o y)
  unfolding accumulated_of only_of read_of core_in set_pc set_cy set_ac
  only_right o y =
      rw (value_plain (state (core_in m c) l) a e, seen_plain (state (core_in m c) l) a e) (took_core m c _)

  both_right : (o : Operation) (y : ℕ) → execute.stored_of (state (core_in m c) l) o y a ≡ inside m (both_of c l a o y)
  unfolding execute.stored_of both_of read_of core_in set_pc set_cy set_ac
  both_right o y =
      rw (value_plain (state (core_in m c) l) a e, seen_plain (state (core_in m c) l) a e) (put_right _)

  load_right : load_of (state (core_in m c) l) a ≡ core_in m (cell_of c l a)
  unfolding load_of cell_of read_of core_in set_pc set_cy set_ac
  load_right =
      rw (value_plain (state (core_in m c) l) a e, seen_plain (state (core_in m c) l) a e) (took_core m c _)

-- The forms on an address x.
module _ (m : Machine) (c : Core) (l : List ℕ) (x : ℕ) (e : askable_of (target_of l x) ≡ true) where
  Right : Instruction → Type 0
  Right i = execute_of (state (core_in m c) l) i ≡ inside m (instruction_on_of c l (target_of l x) i)

  accumulator_right : (o : Operation) → Right (Accumulator o x)
  unfolding Right execute_of instruction_on_of accumulator_form_of core_in set_pc set_cy set_ac
  accumulator_right o = ap (λ (n : Machine). state n l) (only_right m c l (target_of l x) e o c.ac)

  memory_right : (o : Operation) → Right (Memory o x)
  unfolding Right execute_of instruction_on_of memory_form_of core_in set_pc set_cy set_ac
  memory_right o = both_right m c l (target_of l x) e o c.ac

  lda_right : Right (Lda x)
  unfolding Right execute_of instruction_on_of lda_of
  lda_right = ap (λ (n : Machine). state n l) (load_right m c l (target_of l x) e)

  sta_right : Right (Sta x)
  unfolding Right execute_of instruction_on_of sta_of stored_of core_in set_pc set_cy set_ac
  sta_right = put_right m c l (target_of l x) e _

  ldi_right : (i : ℕ) → Right (Ldi x i)
  unfolding Right execute_of instruction_on_of ldi_of stored_of core_in set_pc set_cy set_ac
  ldi_right i = put_right m c l (target_of l x) e _

  immediate_right : (o : ImmediateOperation) (i : ℕ) → Right (Immediate o x i)
  unfolding Right execute_of instruction_on_of immediate_form_of immediate_on_of with_immediate_of stored_immediate_of
  immediate_right Adi i = ap (λ (n : Machine). state n l) (only_right m c l (target_of l x) e Operation.Add i)
  immediate_right Adim i = both_right m c l (target_of l x) e Operation.Add i
  immediate_right Sbi i = ap (λ (n : Machine). state n l) (only_right m c l (target_of l x) e Operation.Sub i)
  immediate_right Sbim i = both_right m c l (target_of l x) e Operation.Sub i
  immediate_right Eorim i = both_right m c l (target_of l x) e Operation.Eor i
  immediate_right Orim i = both_right m c l (target_of l x) e Operation.Or i
  immediate_right Andim i = both_right m c l (target_of l x) e Operation.And i

  -- a word that is one of them
  On : Result Instruction Refusal → Type 0
  On d = done_of (state (core_in m c) l) d ≡ happened false (inside m (word_on_of c l (target_of l x) d))

  on : (i : Instruction) → Right i → On (Ok i)
  unfolding Right On done_of word_on_of
  on i p = ap (λ (s : State). happened false s) p

-- Words on no cell.
module _ (m : Machine) (c : Core) (l : List ℕ) where
  Goes : Result Instruction Refusal → Type 0
  Goes d = (other_word_of c d).went ≡ true → done_of (state (core_in m c) l) d ≡ happened false (inside m (quickly (other_word_of c d) l))

  pick_core : (b : Bool) (x y : ℕ) → pick b (set_pc (core_in m c) x) (set_pc (core_in m c) y) ≡ core_in m (pick b (gone_of c x) (gone_of c y))
  pick_core true x y = gone_core m c x
  pick_core false x y = gone_core m c y

  branch_right : (k : Condition) (t : ℕ) → branch_of (core_in m c) k t ≡ core_in m (branched_of c k t)
  unfolding branch_of branch_if_of branched_of onward_of core_in set_pc set_cy set_ac
  branch_right k t = pick_core (taken_of k c.ac c.cy) (within_of c.pc t) (next_of c.pc)

  pub stays_never : {P : Type 0} → (stays_of c).went ≡ true → P
  unfolding stays_of
  stays_never e = never e

  other_right : (d : Result Instruction Refusal) → Goes d
  unfolding Goes done_of other_word_of instruction_of execute_of shr_of onward_of core_in set_pc set_cy set_ac
  other_right (Err why) = stays_never
  other_right (Ok (Accumulator o x)) = stays_never
  other_right (Ok (Memory o x)) = stays_never
  other_right (Ok (Lda x)) = stays_never
  other_right (Ok (Sta x)) = stays_never
  other_right (Ok (Immediate o x i)) = stays_never
  other_right (Ok (Ldi x i)) = stays_never
  other_right (Ok (Branch k t)) = λ _. ap (λ (n : Machine). happened false (state n l)) (branch_right k t)
  other_right (Ok (Call t)) = stays_never
  other_right (Ok (Daa x)) = stays_never
  other_right (Ok (Das x)) = stays_never
  other_right (Ok (Rtnw h v)) = stays_never
  other_right (Ok Rtni) = stays_never
  other_right (Ok Halt) = stays_never
  other_right (Ok Stop) = stays_never
  other_right (Ok (Jmp t)) = λ _. ap (λ (n : Machine). happened false (state n l)) (gone_core m c t)
  other_right (Ok Shr) = λ _. ap (λ (n : Machine). happened false (state n l)) (took_core m c (shifted_right_of c.ac))
  other_right (Ok Tjmp) = stays_never
  other_right (Ok Nop) = λ _. ap (λ (n : Machine). happened false (state n l)) (gone_core m c (next_of c.pc))

-- What a word below $8000 is read as.
pub low_word : (w : ℕ) → w < 0x4000 → decode_of w ≡ pick (ltb (w / 2048) 7) (accumulator_of w) (transfer_of w)
unfolding decode_of
low_word w h = by_lt (λ (d : Result Instruction Refusal). d ≡ pick (ltb (w / 2048) 7) (accumulator_of w) (transfer_of w)) (w / 2048) 7 _ _ (λ k. rw (lt-ltb (w / 2048) 7 k)) (λ k. rw (le-ltb (w / 2048) 7 k, eq-eqb (w / 2048) 7 (omega arith)))

pub middle_word : (w : ℕ) → 0x4000 ≤ w → w < 0x8000 → decode_of w ≡ pick (ltb (w / 2048) 15) (Ok (Immediate (immediate_of (w / 2048)) (w % 128) (w / 128 % 16))) (Ok (Ldi (w % 128) (w / 128 % 16)))
unfolding decode_of
middle_word w g h =
    rw (le-ltb (w / 2048) 7 (omega arith), ne_eqb (w / 2048) 7 (omega arith))
    (by_lt (λ (d : Result Instruction Refusal). d ≡ pick (ltb (w / 2048) 15) (Ok (Immediate (immediate_of (w / 2048)) (w % 128) (w / 128 % 16))) (Ok (Ldi (w % 128) (w / 128 % 16)))) (w / 2048) 15 _ _ (λ k. rw (lt-ltb (w / 2048) 15 k)) (λ k. rw (le-ltb (w / 2048) 15 k, eq-eqb (w / 2048) 15 (omega arith))))

module _ (m : Machine) (c : Core) (l : List ℕ) (w : ℕ) where
  Quickly : Quick → Type 0
  Quickly q = q.core.went ≡ true → done_of (state (core_in m c) l) (decode_of w) ≡ happened false (inside m q)

  low_right : w < 0x4000 → askable_of (target_of l (w % 1024)) ≡ true → done_of (state (core_in m c) l) (decode_of w) ≡ happened false (inside m (word_on_of c l (target_of l (w % 1024)) (decode_of w)))
  unfolding accumulator_of transfer_of On
  low_right h e = rw (low_word w h)
      (by_choice (On m c l (w % 1024) e) (ltb (w / 2048) 7) _ _
      (by_choice (On m c l (w % 1024) e) (eqb (w / 1024 % 2) 1) _ _ (on m c l (w % 1024) e _ (memory_right m c l (w % 1024) e _)) (on m c l (w % 1024) e _ (accumulator_right m c l (w % 1024) e _)))
      (by_choice (On m c l (w % 1024) e) (eqb (w / 1024 % 2) 1) _ _ (on m c l (w % 1024) e _ (sta_right m c l (w % 1024) e)) (on m c l (w % 1024) e _ (lda_right m c l (w % 1024) e))))

  middle_right : 0x4000 ≤ w → w < 0x8000 → askable_of (target_of l (w % 128)) ≡ true → done_of (state (core_in m c) l) (decode_of w) ≡ happened false (inside m (word_on_of c l (target_of l (w % 128)) (decode_of w)))
  unfolding On
  middle_right g h e = rw (middle_word w g h)
      (by_choice (On m c l (w % 128) e) (ltb (w / 2048) 15) _ _ (on m c l (w % 128) e _ (immediate_right m c l (w % 128) e _ _)) (on m c l (w % 128) e _ (ldi_right m c l (w % 128) e _)))

  -- the word on the cell that it means, where that can be asked for
  cell_right : (a : ℕ) → (askable_of a ≡ true → done_of (state (core_in m c) l) (decode_of w) ≡ happened false (inside m (word_on_of c l a (decode_of w)))) → Quickly (cell_word_of c l w a)
  unfolding Quickly cell_word_of
  cell_right a f = by_test Quickly (askable_of a) _ _ (λ e _. f e) (λ _. stays_never m c l)

  pub quick_right : (quick_of c l w).core.went ≡ true → done_of (state (core_in m c) l) (decode_of w) ≡ happened false (inside m (quick_of c l w))
  unfolding quick_of Quickly On Goes
  quick_right =
      by_lt Quickly w 0x4000 _ _ (λ h. cell_right (target_of l (w % 1024)) (low_right h))
      (λ g. by_lt Quickly w 0x8000 _ _ (λ h. cell_right (target_of l (w % 128)) (middle_right g h)) (λ h. other_right m c l (decode_of w)))
