-- Each instruction either writes the cell that its address means, with a value by that cell, AC and CY, or leaves every cell that can be asked for.
use mathlib.Core.Path.{◌≡◌, ◌∙◌, refl, sym}
use mathlib.Core.Bool.{Bool, true, false, not}
use mathlib.Core.List.{List}
use Prim.Native.Nat.{ℕ, ◌+◌, ◌%◌, ◌<◌}
use native.Mathlib.Omega.{arith}
use lib.Dec.{eqb}
use lib.Bits.{and_le_r, or_zero_l, or_zero_r, xor_zero_l, xor_zero_r}
use lib.ListN.{set}
use lib.Seq.{get_or-set_other}
use borrow.Author.Tests.{eqb-true, eqb-false, not-true, not-false}
use Rattle.lent.specs.Lent.{both, at}
use Rattle.lent.proofs.Laws.{never}
use Rattle.word.specs.declared.Operation.{Operation}
use Rattle.word.specs.declared.Operation.TheVariants.{Adc, Add, Sbc, Sub, Eor, Or, And}
use Rattle.word.specs.declared.ImmediateOperation.{ImmediateOperation}
use Rattle.word.specs.declared.ImmediateOperation.TheVariants.{Adi, Adim, Sbi, Sbim, Eorim, Orim, Andim}
use Rattle.word.specs.declared.Instruction.{Instruction}
use Rattle.word.specs.declared.Instruction.TheVariants.{Accumulator, Memory, Lda, Sta, Immediate, Ldi, Branch, Call, Daa, Das, Rtnw, Rtni, Halt, Stop, Jmp, Shr, Tjmp, Nop}
use Rattle.word.specs.Word.{in_range}
use Rattle.word.proofs.Laws.{both_below}
use Rattle.alu.specs.Alu.{calculated_of, loaded_of, decimal_added_of, decimal_subtracted_of}
use Rattle.alu.proofs.Ranges.{calculated_range, decimal_added_range, decimal_subtracted_range}
use Rattle.sh_map.specs.Map.{askable_of}
use Rattle.sh_state.specs.State.{State}
use Rattle.sh_map.proofs.Within.{nibble_within}
use Rattle.sh_cells.specs.Cells.{target_of, value_of, read_of}
use Rattle.sh_writes.specs.Writes.{kept_of, write_of}
use Rattle.sh_execute.specs.Execute.{put_of, stored_of, accumulator_form_of, memory_form_of, lda_of, sta_of, ldi_of, with_immediate_of, stored_immediate_of, immediate_form_of, daa_of, das_of, rtnw_of, execute_of}
use Rattle.writers.specs.Test.{names, changing, writes_in}
use Rattle.writers.proofs.Cell.{past_registers}

-- what is left in memory by a write of v to the cell that x means
unfoldable pub left_of : State → ℕ → ℕ → List ℕ
left_of s x v = set s.memory (target_of s.memory x) (kept_of (at s.memory (target_of s.memory x)) (target_of s.memory x) v)

-- a value by the cell, AC and CY that is always a nibble; where it may differ from the cell, with a cell, AC and CY that make it differ
pub record Value (value : ℕ → ℕ → ℕ → ℕ) (may : Bool) : Type 0 where
  pub nibble : (cell ac cy : ℕ) → cell < 16 → ac < 16 → cy < 2 → value cell ac cy < 16
  pub still : may ≡ false → (cell ac cy : ℕ) → cell < 16 → value cell ac cy ≡ cell
  pub cell : ℕ
  pub ac : ℕ
  pub cy : ℕ
  pub small : (cell < 16) × (ac < 16) × (cy < 2)
  pub moves : may ≡ true → value cell ac cy ≡ cell → ⊥

-- what an instruction does to a cell that can be asked for
pub data Form (i : Instruction) (c : ℕ) : Type 0 where
  Writes : (x : ℕ) (value : ℕ → ℕ → ℕ → ℕ) (may : Bool) → Value value may
      → ((s : State) → (execute_of s i).memory ≡ left_of s x (value (value_of s (target_of s.memory x)) s.machine.ac s.machine.cy))
      → writes_in i c ≡ both (names x c) may → Form i c
  Leaves : ((s : State) → at (execute_of s i).memory c ≡ at s.memory c) → writes_in i c ≡ false → Form i c

both_always : (b : Bool) → b ≡ both b true
both_always true = refl
both_always false = refl

both_never : (b : Bool) → false ≡ both b false
both_never true = refl
both_never false = refl

-- a value that can differ whatever the word
always : {value : ℕ → ℕ → ℕ → ℕ} → ((cell ac cy : ℕ) → cell < 16 → ac < 16 → cy < 2 → value cell ac cy < 16)
    → (cell ac cy : ℕ) → (cell < 16) × (ac < 16) × (cy < 2) → (value cell ac cy ≡ cell → ⊥) → Value value true
always n cell ac cy h m = record { nibble = n; still = λ e. never (sym e); cell = cell; ac = ac; cy = cy; small = h; moves = λ e. m }

-- memory forms: AC can make the cell differ
memory_value : (o : Operation) → Value (λ cell ac cy. (calculated_of o cell ac cy).value) true
unfolding calculated_of
memory_value Adc = always (λ cell ac cy h k l. (calculated_range Adc cell ac cy h k l).0) 0 1 0 (omega arith) (λ e. omega arith)
memory_value Add = always (λ cell ac cy h k l. (calculated_range Add cell ac cy h k l).0) 0 1 0 (omega arith) (λ e. omega arith)
memory_value Sbc = always (λ cell ac cy h k l. (calculated_range Sbc cell ac cy h k l).0) 0 0 0 (omega arith) (λ e. omega arith)
memory_value Sub = always (λ cell ac cy h k l. (calculated_range Sub cell ac cy h k l).0) 0 1 0 (omega arith) (λ e. omega arith)
memory_value Eor = always (λ cell ac cy h k l. (calculated_range Eor cell ac cy h k l).0) 0 1 0 (omega arith) (λ e. omega arith)
memory_value Or = always (λ cell ac cy h k l. (calculated_range Or cell ac cy h k l).0) 0 1 0 (omega arith) (λ e. omega arith)
memory_value And = always (λ cell ac cy h k l. (calculated_range And cell ac cy h k l).0) 1 0 0 (omega arith) (λ e. omega arith)

sta_value : Value (λ cell ac cy. (loaded_of ac cy).value) true
unfolding loaded_of
sta_value = always (λ cell ac cy h k l. k) 1 0 0 (omega arith) (λ e. omega arith)

ldi_value : (i : ℕ) → i < 16 → Value (λ cell ac cy. (loaded_of i cy).value) true
unfolding loaded_of
ldi_value i h = always (λ cell ac cy _ k l. h) ((i + 1) % 16) 0 0 (omega arith) (λ e. omega arith)

-- DAA and DAS: the cell and CY make it differ, whatever AC is; with CY 0 DAA makes 2 of 12, DAS 8 of 14
daa_value : Value (λ cell ac cy. (decimal_added_of cell cy).value) true
unfolding decimal_added_of
daa_value = always (λ cell ac cy h k l. (decimal_added_range cell cy h l).0) 12 0 0 (omega arith) (λ e. omega arith)

das_value : Value (λ cell ac cy. (decimal_subtracted_of cell cy).value) true
unfolding decimal_subtracted_of
das_value = always (λ cell ac cy h k l. (decimal_subtracted_range cell cy h l).0) 14 0 0 (omega arith) (λ e. omega arith)

-- the test of an immediate that changes nothing
zero_of : (i k : ℕ) → not (eqb i k) ≡ false → i ≡ k
zero_of i k e = eqb-true i k (not-false (eqb i k) e)

other_of_lem : (i k : ℕ) → not (eqb i k) ≡ true → i ≡ k → ⊥
other_of_lem i k e = eqb-false i k (not-true (eqb i k) e)

-- immediate memory forms: from 0, or from 15 for ANDIM, an immediate that changes anything makes the cell differ
module _ (i : ℕ) (h : i < 16) where
  adim_value : Value (λ cell ac cy. (calculated_of Add cell i cy).value) (not (eqb i 0))
  unfolding calculated_of
  adim_value = record {
    nibble = λ cell ac cy k _ l. (calculated_range Add cell i cy k h l).0;
    still = λ e cell ac cy k. let z = zero_of i 0 e in omega arith;
    cell = 0;
    ac = 0;
    cy = 0;
    small = omega arith;
    moves = λ e d. other_of_lem i 0 e (omega arith);
  }

  sbim_value : Value (λ cell ac cy. (calculated_of Sub cell i cy).value) (not (eqb i 0))
  unfolding calculated_of
  sbim_value = record {
    nibble = λ cell ac cy k _ l. (calculated_range Sub cell i cy k h l).0;
    still = λ e cell ac cy k. let z = zero_of i 0 e in omega arith;
    cell = 0;
    ac = 0;
    cy = 0;
    small = omega arith;
    moves = λ e d. other_of_lem i 0 e (omega arith);
  }

  eorim_value : Value (λ cell ac cy. (calculated_of Eor cell i cy).value) (not (eqb i 0))
  unfolding calculated_of
  eorim_value = record {
    nibble = λ cell ac cy k _ l. (calculated_range Eor cell i cy k h l).0;
    still = λ e cell ac cy k. let z = zero_of i 0 e in rw z (xor_zero_r cell);
    cell = 0;
    ac = 0;
    cy = 0;
    small = omega arith;
    moves = λ e d. other_of_lem i 0 e (sym (xor_zero_l i) ∙ d);
  }

  orim_value : Value (λ cell ac cy. (calculated_of Or cell i cy).value) (not (eqb i 0))
  unfolding calculated_of
  orim_value = record {
    nibble = λ cell ac cy k _ l. (calculated_range Or cell i cy k h l).0;
    still = λ e cell ac cy k. let z = zero_of i 0 e in rw z (or_zero_r cell);
    cell = 0;
    ac = 0;
    cy = 0;
    small = omega arith;
    moves = λ e d. other_of_lem i 0 e (sym (or_zero_l i) ∙ d);
  }

  andim_value : Value (λ cell ac cy. (calculated_of And cell i cy).value) (not (eqb i 15))
  unfolding calculated_of
  andim_value = record {
    nibble = λ cell ac cy k _ l. (calculated_range And cell i cy k h l).0;
    still = λ e cell ac cy k. nibble_within cell i k (zero_of i 15 e);
    cell = 15;
    ac = 0;
    cy = 0;
    small = omega arith;
    moves = λ e d. other_of_lem i 15 e (omega (arith, and_le_r 15 i));
  }

immediate_form : (o : ImmediateOperation) (x i c : ℕ) → i < 16 → Form (Immediate o x i) c
unfolding execute_of immediate_form_of with_immediate_of stored_immediate_of stored_of put_of write_of read_of left_of writes_in changing
immediate_form Adi x i c h = Leaves (λ s. refl) (sym (both_never (names x c)))
immediate_form Adim x i c h = Writes x _ _ (adim_value i h) (λ s. refl) refl
immediate_form Sbi x i c h = Leaves (λ s. refl) (sym (both_never (names x c)))
immediate_form Sbim x i c h = Writes x _ _ (sbim_value i h) (λ s. refl) refl
immediate_form Eorim x i c h = Writes x _ _ (eorim_value i h) (λ s. refl) refl
immediate_form Orim x i c h = Writes x _ _ (orim_value i h) (λ s. refl) refl
immediate_form Andim x i c h = Writes x _ _ (andim_value i h) (λ s. refl) refl

pub form_of : (i : Instruction) (c : ℕ) → in_range i ≡ true → askable_of c ≡ true → Form i c
unfolding execute_of accumulator_form_of memory_form_of lda_of sta_of ldi_of daa_of das_of rtnw_of stored_of put_of write_of read_of left_of writes_in
form_of (Accumulator o x) c r h = Leaves (λ s. refl) refl
form_of (Memory o x) c r h = Writes x _ _ (memory_value o) (λ s. refl) (both_always (names x c))
form_of (Lda x) c r h = Leaves (λ s. refl) refl
form_of (Sta x) c r h = Writes x _ _ sta_value (λ s. refl) (both_always (names x c))
form_of (Immediate o x i) c r h = immediate_form o x i c (both_below x 128 i 16 r).1
form_of (Ldi x i) c r h = Writes x _ _ (ldi_value i (both_below x 128 i 16 r).1) (λ s. refl) (both_always (names x c))
form_of (Branch k t) c r h = Leaves (λ s. refl) refl
form_of (Call t) c r h = Leaves (λ s. refl) refl
form_of (Daa x) c r h = Writes x _ _ daa_value (λ s. refl) (both_always (names x c))
form_of (Das x) c r h = Writes x _ _ das_value (λ s. refl) (both_always (names x c))
form_of (Rtnw t l) c r h = Leaves (λ s. let b = past_registers c h in get_or-set_other s.memory 0x0E c t 0 (omega arith)) refl
form_of Rtni c r h = Leaves (λ s. refl) refl
form_of Halt c r h = Leaves (λ s. refl) refl
form_of Stop c r h = Leaves (λ s. refl) refl
form_of (Jmp t) c r h = Leaves (λ s. refl) refl
form_of Shr c r h = Leaves (λ s. refl) refl
form_of Tjmp c r h = Leaves (λ s. refl) refl
form_of Nop c r h = Leaves (λ s. refl) refl
