-- An instruction whose fields are in range is a word of 16 bits.
use mathlib.Core.Path.{◌≡◌}
use mathlib.Core.Bool.{true}
use Prim.Native.Nat.{◌<◌}
use native.Mathlib.Omega.{arith}
use borrow.Author.Tests.{ltb-true}
use Rattle.word.specs.declared.Instruction.{Instruction}
use Rattle.word.specs.declared.Instruction.TheVariants.{Accumulator, Memory, Lda, Sta, Immediate, Ldi, Branch, Call, Daa, Das, Rtnw, Rtni, Halt, Stop, Jmp, Shr, Tjmp, Nop}
use Rattle.word.specs.Word.{in_range, word_of}
use Rattle.word.proofs.Laws.{both_below}
use Rattle.word.proofs.Codes.{operation_back, immediate_back, condition_back}

pub word_fits : (i : Instruction) → in_range i ≡ true → word_of i < 65536
word_fits (Accumulator o a) e = omega (arith, ltb-true a 1024 e, operation_back o)
word_fits (Memory o a) e = omega (arith, ltb-true a 1024 e, operation_back o)
word_fits (Lda a) e = omega (arith, ltb-true a 1024 e)
word_fits (Sta a) e = omega (arith, ltb-true a 1024 e)
word_fits (Immediate o x i) e = omega (arith, both_below x 128 i 16 e, immediate_back o)
word_fits (Ldi x i) e = omega (arith, both_below x 128 i 16 e)
word_fits (Branch c t) e = omega (arith, ltb-true t 2048 e, condition_back c)
word_fits (Call t) e = omega (arith, ltb-true t 2048 e)
word_fits (Daa x) e = omega (arith, ltb-true x 128 e)
word_fits (Das x) e = omega (arith, ltb-true x 128 e)
word_fits (Rtnw h l) e = omega (arith, both_below h 16 l 16 e)
word_fits Rtni e = omega arith
word_fits Halt e = omega arith
word_fits Stop e = omega arith
word_fits (Jmp t) e = omega (arith, ltb-true t 4096 e)
word_fits Shr e = omega arith
word_fits Tjmp e = omega arith
word_fits Nop e = omega arith
