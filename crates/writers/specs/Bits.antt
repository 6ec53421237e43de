-- The same test by a word's bits: which address it names, and whether what it does there can differ.
use Rattle.std.specs.Prelude.{Bool, List, [], ◌∷◌, ℕ, ◌/◌, ◌%◌, ◌^◌, ltb, eqb}
use Rattle.lent.specs.Lent.{pick, at}

-- codes 0-7 name an address in any bank, the others one in bank 0
unfoldable pub named_of : ℕ → ℕ
named_of w = pick (ltb w 0x4000) (w % 1024) (w % 128)

-- for each code 0-15, a bit for each value of a word's bits 10-7: whether it writes what can differ
unfoldable pub rows : List ℕ
rows =
    0xFF00 ∷ 0xFF00 ∷ 0xFF00 ∷ 0xFF00 ∷ 0xFF00 ∷ 0xFF00 ∷ 0xFF00 ∷ 0xFF00  -- bit 10
    ∷ 0 ∷ 0xFFFE ∷ 0 ∷ 0xFFFE ∷ 0xFFFE ∷ 0xFFFE ∷ 0x7FFF ∷ 0xFFFF ∷ []  -- an immediate but 0, but 15, any

-- code 25 has DAA and DAS
unfoldable pub row_of : ℕ → ℕ
row_of n = pick (ltb n 16) (at rows n) (pick (eqb n 25) 0x0440 0)

unfoldable pub may_of : ℕ → Bool
may_of w = eqb (row_of (w / 2048) / 2 ^ (w / 128 % 16) % 2) 1
