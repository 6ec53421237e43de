-- One instruction on the machine (003, section 17; 01, "One instruction"; 02, P6). Decoding keeps every field in its range.
use Rattle.std.specs.Prelude.{ℕ, ◌+◌, ◌*◌, ◌/◌, ◌%◌, Bool, not, eqb, set}
use Rattle.lent.specs.Lent.{pick, at}
use Rattle.word.specs.declared.Operation.{Operation}
use Rattle.word.specs.declared.Operation.TheVariants.{Add, Sub, Eor, Or, And}
use Rattle.word.specs.declared.ImmediateOperation.{ImmediateOperation}
use Rattle.word.specs.declared.ImmediateOperation.TheVariants.{Adi, Adim, Sbi, Sbim, Eorim, Orim, Andim}
use Rattle.word.specs.declared.Condition.{Condition}
use Rattle.word.specs.declared.Condition.TheVariants.{Bnz, Bnc, Baz, Bc, Ba0, Ba1, Ba2, Ba3}
use Rattle.word.specs.declared.Instruction.{Instruction}
use Rattle.word.specs.declared.Instruction.TheVariants.{Accumulator, Memory, Lda, Sta, Immediate, Ldi, Branch, Call, Daa, Das, Rtnw, Rtni, Halt, Stop, Jmp, Shr, Tjmp, Nop}
use Rattle.alu.specs.declared.Sum.{Sum}
use Rattle.alu.specs.Alu.{calculated_of, loaded_of, decimal_added_of, decimal_subtracted_of, shifted_right_of}
use Rattle.sh_state.specs.declared.machine.Machine.{Machine}
use Rattle.sh_state.specs.Record.{set_pc, set_ac, set_cy, set_mode, entry_of, push_of, pop_of, newest_of}
use Rattle.sh_state.specs.State.{State, state}
use Rattle.sh_cells.specs.Cells.{target_of, read_of}
use Rattle.sh_writes.specs.Writes.{write_of}

-- PC+1 wraps within 11 bits and keeps PC11
unfoldable pub next_of : ℕ → ℕ
next_of pc = pc / 2048 * 2048 + (pc % 2048 + 1) % 2048

-- branches keep PC11, and so does CALL (HOUSE)
unfoldable pub within_of : ℕ → ℕ → ℕ
within_of pc t = pc / 2048 * 2048 + t % 2048

unfoldable pub onward_of : Machine → Machine
onward_of m = set_pc m (next_of m.pc)

-- AC and CY take a result, and PC goes on
unfoldable pub took_of : Machine → Sum → Machine
took_of m r = onward_of (set_cy (set_ac m r.value) r.carry)

-- a result taken by AC and CY and written to cell a too
unfoldable pub put_of : State → ℕ → Sum → State
put_of s a r = write_of (state (took_of s.machine r) s.memory) a r.value

-- ADC to AND, ADI, SBI: cell a is read; AC takes the result
unfoldable pub accumulated_of : State → Operation → ℕ → ℕ → Machine
accumulated_of s o operand a =
    took_of (read_of s a).machine (calculated_of o (read_of s a).value operand s.machine.cy)

-- ADCM to ANDM, ADIM, SBIM to ANDIM: cell a is read, then AC and the cell take the result
unfoldable pub stored_of : State → Operation → ℕ → ℕ → State
stored_of s o operand a =
    put_of (state (read_of s a).machine s.memory) a (calculated_of o (read_of s a).value operand s.machine.cy)

-- LDA: AC takes the cell
unfoldable pub load_of : State → ℕ → Machine
load_of s a = took_of (read_of s a).machine (loaded_of (read_of s a).value s.machine.cy)

-- The forms on an address; $00F means the cell pointed at before any write.

unfoldable pub accumulator_form_of : State → Operation → ℕ → State
accumulator_form_of s o x = state (accumulated_of s o s.machine.ac (target_of s.memory x)) s.memory

unfoldable pub memory_form_of : State → Operation → ℕ → State
memory_form_of s o x = stored_of s o s.machine.ac (target_of s.memory x)

unfoldable pub lda_of : State → ℕ → State
lda_of s x = state (load_of s (target_of s.memory x)) s.memory

-- STA and LDI only write
unfoldable pub sta_of : State → ℕ → State
sta_of s x = put_of s (target_of s.memory x) (loaded_of s.machine.ac s.machine.cy)

unfoldable pub ldi_of : State → ℕ → ℕ → State
ldi_of s x i = put_of s (target_of s.memory x) (loaded_of i s.machine.cy)

-- the immediate as the operand: AC alone, or AC and the cell
unfoldable pub with_immediate_of : State → Operation → ℕ → ℕ → State
with_immediate_of s o x i = state (accumulated_of s o i (target_of s.memory x)) s.memory

unfoldable pub stored_immediate_of : State → Operation → ℕ → ℕ → State
stored_immediate_of s o x i = stored_of s o i (target_of s.memory x)

unfoldable pub immediate_form_of : State → ImmediateOperation → ℕ → ℕ → State
immediate_form_of s Adi x i = with_immediate_of s Add x i
immediate_form_of s Adim x i = stored_immediate_of s Add x i
immediate_form_of s Sbi x i = with_immediate_of s Sub x i
immediate_form_of s Sbim x i = stored_immediate_of s Sub x i
immediate_form_of s Eorim x i = stored_immediate_of s Eor x i
immediate_form_of s Orim x i = stored_immediate_of s Or x i
immediate_form_of s Andim x i = stored_immediate_of s And x i

-- DAA and DAS: "the cell's value" (02, P6) is read and adjusted; then "both get the result", AC and the cell
unfoldable pub daa_of : State → ℕ → State
daa_of s x =
    put_of (state (read_of s (target_of s.memory x)).machine s.memory) (target_of s.memory x)
    (decimal_added_of (read_of s (target_of s.memory x)).value s.machine.cy)

unfoldable pub das_of : State → ℕ → State
das_of s x =
    put_of (state (read_of s (target_of s.memory x)).machine s.memory) (target_of s.memory x)
    (decimal_subtracted_of (read_of s (target_of s.memory x)).value s.machine.cy)

unfoldable pub taken_of : Condition → ℕ → ℕ → Bool
taken_of Bnz ac cy = not (eqb ac 0)
taken_of Bnc ac cy = not (eqb cy 1)
taken_of Baz ac cy = eqb ac 0
taken_of Bc ac cy = eqb cy 1
taken_of Ba0 ac cy = eqb (ac % 2) 1
taken_of Ba1 ac cy = eqb (ac / 2 % 2) 1
taken_of Ba2 ac cy = eqb (ac / 4 % 2) 1
taken_of Ba3 ac cy = eqb (ac / 8 % 2) 1

unfoldable pub branch_if_of : Machine → Bool → ℕ → Machine
branch_if_of m taken t = pick taken (set_pc m (within_of m.pc t)) (onward_of m)

unfoldable pub branch_of : Machine → Condition → ℕ → Machine
branch_of m c t = branch_if_of m (taken_of c m.ac m.cy) t

-- CALL pushes CY and PC+1
unfoldable pub call_of : Machine → ℕ → Machine
call_of m t = set_pc (push_of m (entry_of m.cy (next_of m.pc))) (within_of m.pc t)

-- RTNW returns, leaves CY and sets TBR ($00E) and AC
unfoldable pub rtnw_of : State → ℕ → ℕ → State
rtnw_of s h l =
    state (set_pc (set_ac (pop_of s.machine) l) (newest_of s.machine % 4096)) (set s.memory 0x0E h)

-- RTNI returns and restores CY
unfoldable pub rtni_of : Machine → Machine
rtni_of m = set_pc (set_cy (pop_of m) (newest_of m / 4096 % 2)) (newest_of m % 4096)

-- HALT and STOP
unfoldable pub rest_of : Machine → ℕ → Machine
rest_of m mode = set_mode (onward_of m) mode

unfoldable pub shr_of : Machine → Machine
shr_of m = took_of m (shifted_right_of m.ac)

-- TJMP goes to its own PC11-PC8, TBR, AC and pushes nothing
unfoldable pub tjmp_of : State → Machine
tjmp_of s = set_pc s.machine (s.machine.pc / 256 * 256 + (at s.memory 0x0E % 16 * 16 + s.machine.ac % 16))

unfoldable pub execute_of : State → Instruction → State
execute_of s (Accumulator o x) = accumulator_form_of s o x
execute_of s (Memory o x) = memory_form_of s o x
execute_of s (Lda x) = lda_of s x
execute_of s (Sta x) = sta_of s x
execute_of s (Immediate o x i) = immediate_form_of s o x i
execute_of s (Ldi x i) = ldi_of s x i
execute_of s (Branch c t) = state (branch_of s.machine c t) s.memory
execute_of s (Call t) = state (call_of s.machine t) s.memory
execute_of s (Daa x) = daa_of s x
execute_of s (Das x) = das_of s x
execute_of s (Rtnw h l) = rtnw_of s h l
execute_of s Rtni = state (rtni_of s.machine) s.memory
execute_of s Halt = state (rest_of s.machine 1) s.memory
execute_of s Stop = state (rest_of s.machine 2) s.memory
execute_of s (Jmp t) = state (set_pc s.machine t) s.memory
execute_of s Shr = state (shr_of s.machine) s.memory
execute_of s Tjmp = state (tjmp_of s) s.memory
execute_of s Nop = state (onward_of s.machine) s.memory
