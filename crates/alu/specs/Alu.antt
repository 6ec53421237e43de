-- The arithmetic of one instruction (01, "One instruction"; 003, section 17): a value of four bits and CY after it.
use Rattle.std.specs.Prelude.{ℕ, ◌+◌, ◌-◌, ◌/◌, ◌%◌, ◌<◌, ltb, eqb}
use Rattle.std.specs.Int.Bits.{bit_and, bit_or, bit_xor}
use Rattle.lent.specs.Lent.{pick}
use Rattle.word.specs.declared.Operation.{Operation}
use Rattle.word.specs.declared.Operation.TheVariants.{Adc, Add, Sbc, Sub, Eor, Or, And}
use Rattle.alu.specs.declared.Sum.{Sum}

-- a result and CY after it
abbrev pub sum_of : ℕ → ℕ → Sum
sum_of v c = record { value = v; carry = c }

-- three numbers added in four bits; "CY is the carry out"
abbrev pub added_of : ℕ → ℕ → ℕ → Sum
added_of x y c = sum_of ((x + y + c) % 16) ((x + y + c) / 16)

-- "the four-bit complement"
abbrev pub complement : ℕ → ℕ
complement n = 15 - n % 16

-- Mx and an operand, AC or I: "Subtracting adds the four-bit complement and 1 (CY for SBC)"; EOR, OR and AND change no flag
unfoldable pub calculated_of : Operation → ℕ → ℕ → ℕ → Sum
calculated_of Adc cell operand cy = added_of cell operand cy  -- AC ← Mx + AC + CY
calculated_of Add cell operand cy = added_of cell operand 0  -- AC ← Mx + AC
calculated_of Sbc cell operand cy = added_of cell (complement operand) cy  -- AC ← Mx + -AC + CY
calculated_of Sub cell operand cy = added_of cell (complement operand) 1  -- AC ← Mx + -AC + 1
calculated_of Eor cell operand cy = sum_of (bit_xor cell operand) cy  -- AC ← Mx ⊕ AC
calculated_of Or cell operand cy = sum_of (bit_or cell operand) cy  -- AC ← Mx | AC
calculated_of And cell operand cy = sum_of (bit_and cell operand) cy  -- AC ← Mx & AC

-- LDA: AC ← Mx, no flag
unfoldable pub loaded_of : ℕ → ℕ → Sum
loaded_of cell cy = sum_of cell cy

-- HOUSE: "DAA: if AC > 9 or CY = 1, AC + 6 mod 16 and CY 1; else no change"; the value is the cell's and not AC's (02, P6)
abbrev pub six_more_of : ℕ → Sum
six_more_of value = sum_of ((value + 6) % 16) 1

unfoldable pub decimal_added_of : ℕ → ℕ → Sum
decimal_added_of value cy =
    pick (ltb 9 value) (six_more_of value) (pick (eqb cy 1) (six_more_of value) (sum_of value cy))

-- HOUSE: "DAS: if CY = 0, AC + 10 mod 16; else no change; CY stays"; of the cell's value (02, P6)
unfoldable pub decimal_subtracted_of : ℕ → ℕ → Sum
decimal_subtracted_of value cy =
    pick (eqb cy 0) (sum_of ((value + 10) % 16) cy) (sum_of value cy)

-- SHR: "0 → AC [3]; AC [0] → CY; AC shift right one bit"
unfoldable pub shifted_right_of : ℕ → Sum
shifted_right_of value = sum_of (value / 2) (value % 2)

-- a value of four bits and a carry of one
abbrev pub Ranged : Sum → Type 0
Ranged s = (s.value < 16) × (s.carry < 2)
