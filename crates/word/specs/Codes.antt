-- The codes, bits 15-11 of a word, of the operations and conditions (003, section 17; 01, "Instruction words"), both ways.
use Rattle.std.specs.Prelude.{ℕ, eqb}
use Rattle.lent.specs.Lent.{pick}
use Rattle.word.specs.declared.Operation.{Operation}
use Rattle.word.specs.declared.Operation.TheVariants.{Adc, Add, Sbc, Sub, Eor, Or, And}
use Rattle.word.specs.declared.ImmediateOperation.{ImmediateOperation}
use Rattle.word.specs.declared.ImmediateOperation.TheVariants.{Adi, Adim, Sbi, Sbim, Eorim, Orim, Andim}
use Rattle.word.specs.declared.Condition.{Condition}
use Rattle.word.specs.declared.Condition.TheVariants.{Bnz, Bnc, Baz, Bc, Ba0, Ba1, Ba2, Ba3}

-- accumulator type: codes 0-6 (01: "ADC ADD SBC SUB EOR OR AND")
abbrev pub operation_code : Operation → ℕ
operation_code Adc = 0
operation_code Add = 1
operation_code Sbc = 2
operation_code Sub = 3
operation_code Eor = 4
operation_code Or = 5
operation_code And = 6

unfoldable pub operation_of : ℕ → Operation
operation_of c =
    pick (eqb c 0) Adc
    (pick (eqb c 1) Add
    (pick (eqb c 2) Sbc
    (pick (eqb c 3) Sub
    (pick (eqb c 4) Eor
    (pick (eqb c 5) Or
    And)))))

-- immediate type: codes 8-14 (01: "ADI ADIM SBI SBIM EORIM ORIM ANDIM")
abbrev pub immediate_code : ImmediateOperation → ℕ
immediate_code Adi = 8
immediate_code Adim = 9
immediate_code Sbi = 10
immediate_code Sbim = 11
immediate_code Eorim = 12
immediate_code Orim = 13
immediate_code Andim = 14

unfoldable pub immediate_of : ℕ → ImmediateOperation
immediate_of c =
    pick (eqb c 8) Adi
    (pick (eqb c 9) Adim
    (pick (eqb c 10) Sbi
    (pick (eqb c 11) Sbim
    (pick (eqb c 12) Eorim
    (pick (eqb c 13) Orim
    Andim)))))

-- branches: codes 16-23 (01: "BNZ BNC BAZ BC BA0 BA1 BA2 BA3")
abbrev pub condition_code : Condition → ℕ
condition_code Bnz = 16
condition_code Bnc = 17
condition_code Baz = 18
condition_code Bc = 19
condition_code Ba0 = 20
condition_code Ba1 = 21
condition_code Ba2 = 22
condition_code Ba3 = 23

unfoldable pub condition_of : ℕ → Condition
condition_of c =
    pick (eqb c 16) Bnz
    (pick (eqb c 17) Bnc
    (pick (eqb c 18) Baz
    (pick (eqb c 19) Bc
    (pick (eqb c 20) Ba0
    (pick (eqb c 21) Ba1
    (pick (eqb c 22) Ba2
    Ba3))))))
