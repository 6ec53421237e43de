-- The twelve numbers of 01, "Numbers to check by", a row for each, beside the paper's line; where it gives two numbers in one line, two rows. 5 and 6
-- "state the cell's value" (02, P6), where 01 has AC 12 and AC 14.
use Rattle.std.specs.Prelude.{List, [], ◌∷◌, pos, neg_ℤ}
use Rattle.word.specs.declared.Operation.TheVariants.{Adc, Sub}
use Rattle.word.specs.declared.ImmediateOperation.TheVariants.{Adim, Sbim, Andim}
use Rattle.word.specs.declared.Instruction.TheVariants.{Accumulator, Sta, Immediate, Daa, Das, Rtnw, Tjmp, Nop}
use Rattle.numbers.specs.Row.{Place, Row}
use Rattle.numbers.specs.Row.Place.{PC, AC, CY, Cell}
use Rattle.numbers.specs.Row.Fact.{◌is◌}
use Rattle.numbers.specs.Row.Word.{◌has◌}
use Rattle.numbers.specs.Row.Row.{Executed, Names, Unlisted, Level, Writers}

-- "cell": the first data cell
abbrev pub cell : Place
cell = Cell 0x020

abbrev pub TBR : Place
TBR = Cell 0x00E

abbrev pub table : List Row
table =
    -- 1. ADC, cell 9, AC 8, CY 1: AC 2, CY 1.
    Executed (Accumulator Adc 0x020) (cell is 9 ∷ AC is 8 ∷ CY is 1 ∷ []) (AC is 2 ∷ CY is 1 ∷ [])
    -- 2. SUB, cell 3, AC 5: AC 14, CY 0.
    ∷ Executed (Accumulator Sub 0x020) (cell is 3 ∷ AC is 5 ∷ []) (AC is 14 ∷ CY is 0 ∷ [])
    -- 3. SUB, 5 and 5: AC 0, CY 1.
    ∷ Executed (Accumulator Sub 0x020) (cell is 5 ∷ AC is 5 ∷ []) (AC is 0 ∷ CY is 1 ∷ [])
    -- 4. SBIM 0 on 7: cell 7, CY 1.
    ∷ Executed (Immediate Sbim 0x020 0) (cell is 7 ∷ []) (cell is 7 ∷ CY is 1 ∷ [])
    -- 5. DAA, cell 12, CY 0: 2, CY 1.
    ∷ Executed (Daa 0x020) (cell is 12 ∷ CY is 0 ∷ []) (AC is 2 ∷ cell is 2 ∷ CY is 1 ∷ [])
    -- 6. DAS, cell 14, CY 0: 8, CY 0.
    ∷ Executed (Das 0x020) (cell is 14 ∷ CY is 0 ∷ []) (AC is 8 ∷ cell is 8 ∷ CY is 0 ∷ [])
    -- 7. After $7FF comes $000; after $FFF, $800.
    ∷ Executed Nop (PC is 0x7FF ∷ []) (PC is 0x000 ∷ [])
    ∷ Executed Nop (PC is 0xFFF ∷ []) (PC is 0x800 ∷ [])
    -- 8. TJMP at $A34, TBR 5, AC 6: $A56.
    ∷ Executed Tjmp (PC is 0xA34 ∷ TBR is 5 ∷ AC is 6 ∷ []) (PC is 0xA56 ∷ [])
    -- 9. $CB7F is DAA $7F; $CB80 is unlisted.
    ∷ Names 0xCB7F (Daa 0x7F)
    ∷ Unlisted 0xCB80
    -- 10. RTNW 4,2 is $D042.
    ∷ Names 0xD042 (Rtnw 4 2)
    -- 11. Digits 1,0 with ground 2: level 6; digits 0,1: -1.
    ∷ Level 1 0 2 (pos 6)
    ∷ Level 0 1 2 (neg_ℤ (pos 1))
    -- 12. All NOP but $010 = $4820 (ADIM $20,0), $011 = $48A0 (ADIM $20,1), $012 = $3C0F (STA $0F), $013 = $3CA0 (STA $0A0),
    -- $014 = $77A0 (ANDIM $20,15): writers of $020 are $011, $012.
    ∷ Names 0x4820 (Immediate Adim 0x20 0)
    ∷ Names 0x48A0 (Immediate Adim 0x20 1)
    ∷ Names 0x3C0F (Sta 0x0F)
    ∷ Names 0x3CA0 (Sta 0x0A0)
    ∷ Names 0x77A0 (Immediate Andim 0x20 15)
    ∷ Writers (0x010 has 0x4820 ∷ 0x011 has 0x48A0 ∷ 0x012 has 0x3C0F ∷ 0x013 has 0x3CA0 ∷ 0x014 has 0x77A0 ∷ []) 0x020 (0x011 ∷ 0x012 ∷ [])
    ∷ []
