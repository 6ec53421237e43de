-- The ratios and periods that a mode register chooses, a table each.
use Rattle.std.specs.Prelude.{ℕ, ◌%◌, ◌/◌, Bool, List, [], ◌∷◌, eqb}
use Rattle.lent.specs.Lent.{at}

-- Timer0's ratio by bits 2-0 of $002 (003, 7.2, table 1; the last counts pins: /1)
unfoldable pub ratios : List ℕ
ratios = 2048 ∷ 512 ∷ 128 ∷ 32 ∷ 8 ∷ 4 ∷ 2 ∷ 1 ∷ []

unfoldable pub ratio_of : ℕ → ℕ
ratio_of mode = at ratios (mode % 8)

-- the base timer's ratio by bits 1-0 of $003 (003, 8)
unfoldable pub base_ratios : List ℕ
base_ratios = 1 ∷ 4 ∷ 8 ∷ 16 ∷ []

unfoldable pub base_ratio_of : ℕ → ℕ
base_ratio_of mode = at base_ratios (mode % 4)

-- the base timer is on when bit 3 of $003 is 1 and bit 2 is 0 (003, 8)
abbrev pub base_on : ℕ → Bool
base_on mode = eqb (mode / 4 % 4) 2

-- the watchdog's period in ms by bits 2-0 of $01E (003, 9)
unfoldable pub periods : List ℕ
periods = 4096 ∷ 1024 ∷ 256 ∷ 128 ∷ 64 ∷ 16 ∷ 4 ∷ 1 ∷ []

unfoldable pub period_of : ℕ → ℕ
period_of control = at periods (control % 8)
