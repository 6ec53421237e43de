-- From values of four bits and a carry of one every result is a value of four bits and a carry of one.
use Prim.Native.Nat.{ℕ, ◌<◌}
use native.Mathlib.Omega.{arith}
use lib.Bits.{and_lt, or_lt, xor_lt}
use Rattle.lent.proofs.Laws.{by_lt, by_eq}
use Rattle.word.specs.declared.Operation.{Operation}
use Rattle.word.specs.declared.Operation.TheVariants.{Adc, Add, Sbc, Sub, Eor, Or, And}
use Rattle.alu.specs.Alu.{Ranged, added_of, complement, calculated_of, loaded_of, decimal_added_of, decimal_subtracted_of, shifted_right_of}

added_range : (x y c : ℕ) → x < 16 → y < 16 → c < 2 → Ranged (added_of x y c)
added_range x y c hx hy hc = (omega arith, omega arith)

pub calculated_range : (o : Operation) (cell operand cy : ℕ) → cell < 16 → operand < 16 → cy < 2 → Ranged (calculated_of o cell operand cy)
unfolding calculated_of
calculated_range Adc cell operand cy h k l = added_range cell operand cy h k l
calculated_range Add cell operand cy h k l = added_range cell operand 0 h k (omega arith)
calculated_range Sbc cell operand cy h k l = added_range cell (complement operand) cy h (omega arith) l
calculated_range Sub cell operand cy h k l = added_range cell (complement operand) 1 h (omega arith) (omega arith)
calculated_range Eor cell operand cy h k l = (xor_lt 4 cell operand h k, l)
calculated_range Or cell operand cy h k l = (or_lt 4 cell operand h k, l)
calculated_range And cell operand cy h k l = (and_lt 4 cell operand h k, l)

pub loaded_range : (cell cy : ℕ) → cell < 16 → cy < 2 → Ranged (loaded_of cell cy)
unfolding loaded_of
loaded_range cell cy h l = (h, l)

pub decimal_added_range : (value cy : ℕ) → value < 16 → cy < 2 → Ranged (decimal_added_of value cy)
unfolding decimal_added_of
decimal_added_range value cy h l =
    by_lt Ranged 9 value _ _ (λ t. (omega arith, omega arith))
    (λ t. by_eq Ranged cy 1 _ _ (λ u. (omega arith, omega arith)) (λ u. (h, l)))

pub decimal_subtracted_range : (value cy : ℕ) → value < 16 → cy < 2 → Ranged (decimal_subtracted_of value cy)
unfolding decimal_subtracted_of
decimal_subtracted_range value cy h l = by_eq Ranged cy 0 _ _ (λ t. (omega arith, l)) (λ t. (h, l))

pub shifted_right_range : (value : ℕ) → value < 16 → Ranged (shifted_right_of value)
unfolding shifted_right_of
shifted_right_range value h = (omega arith, omega arith)
