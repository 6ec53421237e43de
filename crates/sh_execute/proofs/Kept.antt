-- One instruction whose fields are in range keeps a well-formed machine well formed.
use mathlib.Core.Path.{◌≡◌, refl}
use mathlib.Core.Bool.{Bool, true, false}
use Prim.Native.Nat.{ℕ, ◌<◌}
use native.Mathlib.Omega.{arith}
use borrow.Author.Tests.{ltb-true}
use Rattle.word.specs.declared.Operation.{Operation}
use Rattle.word.specs.declared.Operation.TheVariants.{Add, Sub, Eor, Or, And}
use Rattle.word.specs.declared.ImmediateOperation.{ImmediateOperation}
use Rattle.word.specs.declared.ImmediateOperation.TheVariants.{Adi, Adim, Sbi, Sbim, Eorim, Orim, Andim}
use Rattle.word.specs.declared.Instruction.{Instruction}
use Rattle.word.specs.declared.Instruction.TheVariants.{Accumulator, Memory, Lda, Sta, Immediate, Ldi, Branch, Call, Daa, Das, Rtnw, Rtni, Halt, Stop, Jmp, Shr, Tjmp, Nop}
use Rattle.word.specs.Word.{in_range}
use Rattle.word.proofs.Laws.{both_below}
use Rattle.alu.specs.declared.Sum.{Sum}
use Rattle.alu.specs.Alu.{Ranged, calculated_of}
use Rattle.alu.proofs.Ranges.{calculated_range, loaded_range, decimal_added_range, decimal_subtracted_range, shifted_right_range}
use Rattle.sh_state.specs.declared.machine.Machine.{Machine}
use Rattle.sh_map.specs.Map.{kind_of, register_bits, held_in, held_of}
use Rattle.sh_state.specs.State.{State, state}
use Rattle.sh_map.proofs.Within.{nibble_within}
use Rattle.sh_rules.proofs.Fits.{Fit, MachineFit, pc_fits, ac_fits, cy_fits, mode_fits, push_fits, pop_fits, entry_small, store_keeps}
use Rattle.sh_cells.specs.Cells.{read_of, value_of}
use Rattle.sh_cells.proofs.Keeps.{value_small, read_keeps}
use Rattle.sh_writes.proofs.Keeps.{write_keeps}
use Rattle.sh_execute.specs.Execute.{next_of, within_of, onward_of, took_of, put_of, accumulated_of, stored_of, load_of, accumulator_form_of, memory_form_of, lda_of, sta_of, ldi_of, with_immediate_of, stored_immediate_of, immediate_form_of, daa_of, das_of, branch_if_of, branch_of, call_of, rtnw_of, rtni_of, rest_of, shr_of, tjmp_of, execute_of}

next_small : (pc : ℕ) → pc < 4096 → next_of pc < 4096
unfolding next_of
next_small pc h = omega arith

within_small : (pc t : ℕ) → pc < 4096 → within_of pc t < 4096
unfolding within_of
within_small pc t h = omega arith

-- What moves AC, CY, PC or the mode alone.
module _ {m : Machine} {t b w o : ℕ} (f : MachineFit m t b w o) where
  onward_fits : MachineFit (onward_of m) t b w o
  unfolding onward_of
  onward_fits = pc_fits f _ (next_small m.pc f.pc)

  rest_fits : (mode : ℕ) → mode < 3 → MachineFit (rest_of m mode) t b w o
  unfolding rest_of
  rest_fits mode h = mode_fits onward_fits mode h

  call_fits : (x : ℕ) → MachineFit (call_of m x) t b w o
  unfolding call_of
  call_fits x = pc_fits (push_fits f _ (entry_small _ _)) _ (within_small m.pc x f.pc)

  branch_fits : (taken : Bool) (x : ℕ) → MachineFit (branch_if_of m taken x) t b w o
  unfolding branch_if_of
  branch_fits true x = pc_fits f _ (within_small m.pc x f.pc)
  branch_fits false x = onward_fits

  rtni_fits : MachineFit (rtni_of m) t b w o
  unfolding rtni_of
  rtni_fits = pc_fits (cy_fits (pop_fits f) _ (omega arith)) _ (omega arith)

took_fits : {m : Machine} {t b w o : ℕ} → MachineFit m t b w o → {r : Sum} → Ranged r → MachineFit (took_of m r) t b w o
unfolding took_of
took_fits f {r} h = onward_fits (cy_fits (ac_fits f r.value h.0) r.carry h.1)

-- a result taken, and a result taken and written
took_keeps : {s : State} → Fit s → {r : Sum} → Ranged r → Fit (state (took_of s.machine r) s.memory)
took_keeps f h = record { memory = f.memory; machine = took_fits f.machine h }

put_keeps : {s : State} → Fit s → (a : ℕ) {r : Sum} → Ranged r → Fit (put_of s a r)
unfolding put_of
put_keeps f a {r} h = write_keeps (took_keeps f h) a r.value h.0

-- The forms that read a cell.
module _ {s : State} (f : Fit s) where
  calculated_ranged : (o : Operation) (operand a : ℕ) → operand < 16 → Ranged (calculated_of o (read_of s a).value operand s.machine.cy)
  unfolding read_of
  calculated_ranged o operand a h = calculated_range o (value_of s a) operand s.machine.cy (value_small f a) h f.machine.cy

  accumulated_keeps : (o : Operation) (operand a : ℕ) → operand < 16 → Fit (state (accumulated_of s o operand a) s.memory)
  unfolding accumulated_of
  accumulated_keeps o operand a h = took_keeps (read_keeps f a) (calculated_ranged o operand a h)

  stored_keeps : (o : Operation) (operand a : ℕ) → operand < 16 → Fit (stored_of s o operand a)
  unfolding stored_of
  stored_keeps o operand a h = put_keeps (read_keeps f a) a (calculated_ranged o operand a h)

  load_keeps : (a : ℕ) → Fit (state (load_of s a) s.memory)
  unfolding load_of read_of
  load_keeps a = took_keeps (read_keeps f a) (loaded_range (value_of s a) s.machine.cy (value_small f a) f.machine.cy)

  immediate_keeps : (o : ImmediateOperation) (x i : ℕ) → i < 16 → Fit (immediate_form_of s o x i)
  unfolding immediate_form_of with_immediate_of stored_immediate_of
  immediate_keeps Adi x i h = accumulated_keeps Add i _ h
  immediate_keeps Adim x i h = stored_keeps Add i _ h
  immediate_keeps Sbi x i h = accumulated_keeps Sub i _ h
  immediate_keeps Sbim x i h = stored_keeps Sub i _ h
  immediate_keeps Eorim x i h = stored_keeps Eor i _ h
  immediate_keeps Orim x i h = stored_keeps Or i _ h
  immediate_keeps Andim x i h = stored_keeps And i _ h

  rtnw_keeps : (h l : ℕ) → h < 16 → l < 16 → Fit (rtnw_of s h l)
  unfolding rtnw_of held_of held_in kind_of register_bits
  rtnw_keeps h l p q =
      store_keeps (record { memory = f.memory; machine = pc_fits (ac_fits (pop_fits f.machine) l q) _ (omega arith) }) 0x0E h (omega arith) (nibble_within h _ p refl)

  tjmp_keeps : Fit (state (tjmp_of s) s.memory)
  unfolding tjmp_of
  tjmp_keeps = record { memory = f.memory; machine = pc_fits f.machine _ (omega (arith, f.machine.pc)) }

pub execute_keeps : {s : State} (i : Instruction) → in_range i ≡ true → Fit s → Fit (execute_of s i)
unfolding execute_of accumulator_form_of memory_form_of lda_of sta_of ldi_of daa_of das_of branch_of shr_of read_of
execute_keeps (Accumulator o x) e f = accumulated_keeps f o _ _ f.machine.ac
execute_keeps (Memory o x) e f = stored_keeps f o _ _ f.machine.ac
execute_keeps (Lda x) e f = load_keeps f _
execute_keeps (Sta x) e f = put_keeps f _ (loaded_range _ _ f.machine.ac f.machine.cy)
execute_keeps (Immediate o x i) e f = immediate_keeps f o x i (both_below x 128 i 16 e).1
execute_keeps (Ldi x i) e f = put_keeps f _ (loaded_range i _ (both_below x 128 i 16 e).1 f.machine.cy)
execute_keeps (Branch c t) e f = record { memory = f.memory; machine = branch_fits f.machine _ t }
execute_keeps (Call t) e f = record { memory = f.memory; machine = call_fits f.machine t }
execute_keeps (Daa x) e f = put_keeps (read_keeps f _) _ (decimal_added_range _ _ (value_small f _) f.machine.cy)
execute_keeps (Das x) e f = put_keeps (read_keeps f _) _ (decimal_subtracted_range _ _ (value_small f _) f.machine.cy)
execute_keeps (Rtnw h l) e f = let b = both_below h 16 l 16 e in rtnw_keeps f h l b.0 b.1
execute_keeps Rtni e f = record { memory = f.memory; machine = rtni_fits f.machine }
execute_keeps Halt e f = record { memory = f.memory; machine = rest_fits f.machine 1 (omega arith) }
execute_keeps Stop e f = record { memory = f.memory; machine = rest_fits f.machine 2 (omega arith) }
execute_keeps (Jmp t) e f = record { memory = f.memory; machine = pc_fits f.machine t (ltb-true t 4096 e) }
execute_keeps Shr e f = took_keeps f (shifted_right_range _ f.machine.ac)
execute_keeps Tjmp e f = tjmp_keeps f
execute_keeps Nop e f = record { memory = f.memory; machine = onward_fits f.machine }
