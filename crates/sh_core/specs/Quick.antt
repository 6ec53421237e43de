-- A word that touches no cell but data, display and scan, on PC, AC and CY alone. `proofs/Right.antt` has that it is the instruction.
use Rattle.std.specs.Prelude.{ℕ, ◌%◌, Bool, true, false, List, ltb, set, Err, Ok, Result}
use Rattle.std.specs.Int.Bits.{bit_and, bit_or}
use Rattle.lent.specs.Lent.{pick, at}
use Rattle.word.specs.declared.Operation.{Operation}
use Rattle.word.specs.declared.Operation.TheVariants.{Add, Sub, Eor, Or, And}
use Rattle.word.specs.declared.ImmediateOperation.{ImmediateOperation}
use Rattle.word.specs.declared.ImmediateOperation.TheVariants.{Adi, Adim, Sbi, Sbim, Eorim, Orim, Andim}
use Rattle.word.specs.declared.Condition.{Condition}
use Rattle.word.specs.declared.Instruction.{Instruction}
use Rattle.word.specs.declared.Instruction.TheVariants.{Accumulator, Memory, Lda, Sta, Immediate, Ldi, Branch, Call, Daa, Das, Rtnw, Rtni, Halt, Stop, Jmp, Shr, Tjmp, Nop}
use Rattle.word.specs.Word.{decode_of}
use Rattle.alu.specs.declared.Sum.{Sum}
use Rattle.alu.specs.Alu.{calculated_of, loaded_of, shifted_right_of}
use Rattle.sh_map.specs.Map.{askable_of}
use Rattle.sh_state.specs.declared.machine.Machine.{Machine}
use Rattle.sh_state.specs.Record.{set_pc, set_ac, set_cy}
use Rattle.sh_cells.specs.Cells.{target_of}
use Rattle.sh_execute.specs.Execute.{next_of, within_of, taken_of}
use Rattle.sh_core.specs.declared.Core.{Core}
use Rattle.refusal.specs.declared.Refusal.{Refusal}

abbrev pub core : ℕ → ℕ → ℕ → Bool → Core
core pc ac cy went = record { pc = pc; ac = ac; cy = cy; went = went }

-- PC, AC and CY in a machine
unfoldable pub core_in : Machine → Core → Machine
core_in m c = set_pc (set_cy (set_ac m c.ac) c.cy) c.pc

-- PC, AC and CY with the memory after a word
pub record Quick : Type 0 where
  pub core : Core
  pub memory : List ℕ

abbrev pub quickly : Core → List ℕ → Quick
quickly c l = record { core = c; memory = l }

-- the word does not go: nothing has moved
unfoldable pub stays_of : Core → Core
stays_of c = core c.pc c.ac c.cy false

-- AC and CY take a result, and PC goes on
unfoldable pub got_of : Core → Sum → Core
got_of c r = core (next_of c.pc) r.value r.carry true

unfoldable pub gone_of : Core → ℕ → Core
gone_of c pc = core pc c.ac c.cy true

-- the four bits of a cell that holds all four
unfoldable pub put_of : Core → List ℕ → ℕ → Sum → Quick
put_of c l a r = quickly (got_of c r) (set l a (bit_or (bit_and (at l a) 240) (bit_and r.value 15)))

-- the result of cell a and an operand: in AC only, and in AC and the cell
unfoldable pub only_of : Core → List ℕ → ℕ → Operation → ℕ → Core
only_of c l a o y = got_of c (calculated_of o (at l a) y c.cy)

unfoldable pub both_of : Core → List ℕ → ℕ → Operation → ℕ → Quick
both_of c l a o y = put_of c l a (calculated_of o (at l a) y c.cy)

unfoldable pub cell_of : Core → List ℕ → ℕ → Core
cell_of c l a = got_of c (loaded_of (at l a) c.cy)

unfoldable pub stored_of : Core → List ℕ → ℕ → ℕ → Quick
stored_of c l a y = put_of c l a (loaded_of y c.cy)

unfoldable pub immediate_on_of : Core → List ℕ → ℕ → ImmediateOperation → ℕ → Quick
immediate_on_of c l a Adi i = quickly (only_of c l a Add i) l
immediate_on_of c l a Adim i = both_of c l a Add i
immediate_on_of c l a Sbi i = quickly (only_of c l a Sub i) l
immediate_on_of c l a Sbim i = both_of c l a Sub i
immediate_on_of c l a Eorim i = both_of c l a Eor i
immediate_on_of c l a Orim i = both_of c l a Or i
immediate_on_of c l a Andim i = both_of c l a And i

-- the instructions on a cell, a being the cell that is meant
unfoldable pub instruction_on_of : Core → List ℕ → ℕ → Instruction → Quick
instruction_on_of c l a (Accumulator o x) = quickly (only_of c l a o c.ac) l
instruction_on_of c l a (Memory o x) = both_of c l a o c.ac
instruction_on_of c l a (Lda x) = quickly (cell_of c l a) l
instruction_on_of c l a (Sta x) = stored_of c l a c.ac
instruction_on_of c l a (Immediate o x i) = immediate_on_of c l a o i
instruction_on_of c l a (Ldi x i) = stored_of c l a i
instruction_on_of c l a (Branch k t) = quickly (stays_of c) l
instruction_on_of c l a (Call t) = quickly (stays_of c) l
instruction_on_of c l a (Daa x) = quickly (stays_of c) l
instruction_on_of c l a (Das x) = quickly (stays_of c) l
instruction_on_of c l a (Rtnw h v) = quickly (stays_of c) l
instruction_on_of c l a Rtni = quickly (stays_of c) l
instruction_on_of c l a Halt = quickly (stays_of c) l
instruction_on_of c l a Stop = quickly (stays_of c) l
instruction_on_of c l a (Jmp t) = quickly (stays_of c) l
instruction_on_of c l a Shr = quickly (stays_of c) l
instruction_on_of c l a Tjmp = quickly (stays_of c) l
instruction_on_of c l a Nop = quickly (stays_of c) l

unfoldable pub word_on_of : Core → List ℕ → ℕ → Result Instruction Refusal → Quick
word_on_of c l a (Ok i) = instruction_on_of c l a i
word_on_of c l a (Err why) = quickly (stays_of c) l

-- where the cell that is meant is data, display or scan
unfoldable pub cell_word_of : Core → List ℕ → ℕ → ℕ → Quick
cell_word_of c l w a = pick (askable_of a) (word_on_of c l a (decode_of w)) (quickly (stays_of c) l)

unfoldable pub branched_of : Core → Condition → ℕ → Core
branched_of c k t = pick (taken_of k c.ac c.cy) (gone_of c (within_of c.pc t)) (gone_of c (next_of c.pc))

-- the instructions on no cell
unfoldable pub instruction_of : Core → Instruction → Core
instruction_of c (Accumulator o x) = stays_of c
instruction_of c (Memory o x) = stays_of c
instruction_of c (Lda x) = stays_of c
instruction_of c (Sta x) = stays_of c
instruction_of c (Immediate o x i) = stays_of c
instruction_of c (Ldi x i) = stays_of c
instruction_of c (Branch k t) = branched_of c k t
instruction_of c (Call t) = stays_of c
instruction_of c (Daa x) = stays_of c
instruction_of c (Das x) = stays_of c
instruction_of c (Rtnw h v) = stays_of c
instruction_of c Rtni = stays_of c
instruction_of c Halt = stays_of c
instruction_of c Stop = stays_of c
instruction_of c (Jmp t) = gone_of c t
instruction_of c Shr = got_of c (shifted_right_of c.ac)
instruction_of c Tjmp = stays_of c
instruction_of c Nop = gone_of c (next_of c.pc)

unfoldable pub other_word_of : Core → Result Instruction Refusal → Core
other_word_of c (Ok i) = instruction_of c i
other_word_of c (Err why) = stays_of c

-- a word: below $4000 bbb xxx xxxx means the cell, below $8000 xxx xxxx, else none
unfoldable pub quick_of : Core → List ℕ → ℕ → Quick
quick_of c l w =
    pick (ltb w 0x4000) (cell_word_of c l w (target_of l (w % 1024)))
    (pick (ltb w 0x8000) (cell_word_of c l w (target_of l (w % 128))) (quickly (other_word_of c (decode_of w)) l))
