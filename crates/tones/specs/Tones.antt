-- The tone table (003, section 12: "The Value N of Divider1 is Corresponding to the REG C1.6 - C1.0 or REG C2.14 - C2.8 as shown in the
-- following Table") and the step of the counter behind it (003, 12.1: a "7-bit pseudo random counter"; 02, P1: its rule).
use Rattle.std.specs.Prelude.{ℕ, ◌+◌, ◌*◌, ◌/◌, ◌%◌, List, [], ◌∷◌, eqb}
use Rattle.std.specs.Int.Bits.{bit_xor}
use Rattle.lent.specs.Lent.{pick}

-- a register value and its N, row by row as the sheet prints them; N 103 has $79, for which the sheet misprints $19 (02, P1)
unfoldable pub printed : List (ℕ × ℕ)
printed =
    (0x01, 127) ∷ (0x16, 95) ∷ (0x12, 63) ∷ (0x4B, 31)
    ∷ (0x02, 126) ∷ (0x2C, 94) ∷ (0x24, 62) ∷ (0x17, 30)
    ∷ (0x04, 125) ∷ (0x59, 93) ∷ (0x49, 61) ∷ (0x2E, 29)
    ∷ (0x08, 124) ∷ (0x33, 92) ∷ (0x13, 60) ∷ (0x5D, 28)
    ∷ (0x10, 123) ∷ (0x67, 91) ∷ (0x26, 59) ∷ (0x3B, 27)
    ∷ (0x20, 122) ∷ (0x4E, 90) ∷ (0x4D, 58) ∷ (0x77, 26)
    ∷ (0x41, 121) ∷ (0x1D, 89) ∷ (0x1B, 57) ∷ (0x6E, 25)
    ∷ (0x03, 120) ∷ (0x3A, 88) ∷ (0x36, 56) ∷ (0x5C, 24)
    ∷ (0x06, 119) ∷ (0x75, 87) ∷ (0x6D, 55) ∷ (0x39, 23)
    ∷ (0x0C, 118) ∷ (0x6A, 86) ∷ (0x5A, 54) ∷ (0x73, 22)
    ∷ (0x18, 117) ∷ (0x54, 85) ∷ (0x35, 53) ∷ (0x66, 21)
    ∷ (0x30, 116) ∷ (0x29, 84) ∷ (0x6B, 52) ∷ (0x4C, 20)
    ∷ (0x61, 115) ∷ (0x53, 83) ∷ (0x56, 51) ∷ (0x19, 19)
    ∷ (0x42, 114) ∷ (0x27, 82) ∷ (0x2D, 50) ∷ (0x32, 18)
    ∷ (0x05, 113) ∷ (0x4F, 81) ∷ (0x5B, 49) ∷ (0x65, 17)
    ∷ (0x0A, 112) ∷ (0x1F, 80) ∷ (0x37, 48) ∷ (0x4A, 16)
    ∷ (0x14, 111) ∷ (0x3E, 79) ∷ (0x6F, 47) ∷ (0x15, 15)
    ∷ (0x28, 110) ∷ (0x7D, 78) ∷ (0x5E, 46) ∷ (0x2A, 14)
    ∷ (0x51, 109) ∷ (0x7A, 77) ∷ (0x3D, 45) ∷ (0x55, 13)
    ∷ (0x23, 108) ∷ (0x74, 76) ∷ (0x7B, 44) ∷ (0x2B, 12)
    ∷ (0x47, 107) ∷ (0x68, 75) ∷ (0x76, 43) ∷ (0x57, 11)
    ∷ (0x0F, 106) ∷ (0x50, 74) ∷ (0x6C, 42) ∷ (0x2F, 10)
    ∷ (0x1E, 105) ∷ (0x21, 73) ∷ (0x58, 41) ∷ (0x5F, 9)
    ∷ (0x3C, 104) ∷ (0x43, 72) ∷ (0x31, 40) ∷ (0x3F, 8)
    ∷ (0x79, 103) ∷ (0x07, 71) ∷ (0x63, 39) ∷ (0x7F, 7)
    ∷ (0x72, 102) ∷ (0x0E, 70) ∷ (0x46, 38) ∷ (0x7E, 6)
    ∷ (0x64, 101) ∷ (0x1C, 69) ∷ (0x0D, 37) ∷ (0x7C, 5)
    ∷ (0x48, 100) ∷ (0x38, 68) ∷ (0x1A, 36) ∷ (0x78, 4)
    ∷ (0x11, 99) ∷ (0x71, 67) ∷ (0x34, 35) ∷ (0x70, 3)
    ∷ (0x22, 98) ∷ (0x62, 66) ∷ (0x69, 34) ∷ (0x60, 2)
    ∷ (0x45, 97) ∷ (0x44, 65) ∷ (0x52, 33) ∷ (0x40, 1)
    ∷ (0x0B, 96) ∷ (0x09, 64) ∷ (0x25, 32) ∷ []

-- the N that a table has beside a value, and 0 where the value is not in it
unfoldable pub beside : List (ℕ × ℕ) → ℕ → ℕ
beside [] v = 0
beside (r ∷ rs) v = pick (eqb r.0 v) r.1 (beside rs v)

-- N of a register value; 0 for the value 0 and for more than seven bits, which the sheet does not print
unfoldable pub divider_of : ℕ → ℕ
divider_of v = beside printed v

-- the value that a table has before an N, and 0 where the N is not in it
unfoldable pub before : List (ℕ × ℕ) → ℕ → ℕ
before [] n = 0
before (r ∷ rs) n = pick (eqb r.1 n) r.0 (before rs n)

-- the register value of an N
unfoldable pub tone_of : ℕ → ℕ
tone_of n = before printed n

-- 02, P1: "shift left within seven bits, the new low bit is the exclusive or of the two top bits"
unfoldable pub shifted_of : ℕ → ℕ
shifted_of v = v * 2 % 128 + bit_xor (v / 64 % 2) (v / 32 % 2)
