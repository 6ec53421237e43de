-- The test of one word and one cell of data, display or scan: whether the word's instruction writes the cell with anything that may be
-- another value.
use Rattle.std.specs.Prelude.{Bool, true, false, not, ℕ, eqb, Err, Ok, Result}
use Rattle.lent.specs.Lent.{pick, both}
use Rattle.word.specs.declared.ImmediateOperation.{ImmediateOperation}
use Rattle.word.specs.declared.ImmediateOperation.TheVariants.{Adi, Adim, Sbi, Sbim, Eorim, Orim, Andim}
use Rattle.word.specs.declared.Instruction.{Instruction}
use Rattle.word.specs.declared.Instruction.TheVariants.{Accumulator, Memory, Lda, Sta, Immediate, Ldi, Branch, Call, Daa, Das, Rtnw, Rtni, Halt, Stop, Jmp, Shr, Tjmp, Nop}
use Rattle.word.specs.Word.{decode_of}
use Rattle.refusal.specs.declared.Refusal.{Refusal}

-- address x can mean cell c: it is c, or it is $00F, which means the cell pointed at
unfoldable pub names : ℕ → ℕ → Bool
names x c = pick (eqb x c) true (eqb x 0x0F)

-- the immediate can make another value of some value in the cell; ADI and SBI write no cell
unfoldable pub changing : ImmediateOperation → ℕ → Bool
changing Adi i = false
changing Adim i = not (eqb i 0)
changing Sbi i = false
changing Sbim i = not (eqb i 0)
changing Eorim i = not (eqb i 0)
changing Orim i = not (eqb i 0)
changing Andim i = not (eqb i 15)

unfoldable pub writes_in : Instruction → ℕ → Bool
writes_in (Accumulator o x) c = false
writes_in (Memory o x) c = names x c
writes_in (Lda x) c = false
writes_in (Sta x) c = names x c
writes_in (Immediate o x i) c = both (names x c) (changing o i)
writes_in (Ldi x i) c = names x c
writes_in (Branch k t) c = false
writes_in (Call t) c = false
writes_in (Daa x) c = names x c
writes_in (Das x) c = names x c
writes_in (Rtnw h l) c = false
writes_in Rtni c = false
writes_in Halt c = false
writes_in Stop c = false
writes_in (Jmp t) c = false
writes_in Shr c = false
writes_in Tjmp c = false
writes_in Nop c = false

-- "The list of writers never holds the address of an unlisted word"
unfoldable pub writes_by : Result Instruction Refusal → ℕ → Bool
writes_by (Ok i) c = writes_in i c
writes_by (Err why) c = false

unfoldable pub writes_of : ℕ → ℕ → Bool
writes_of w c = writes_by (decode_of w) c
