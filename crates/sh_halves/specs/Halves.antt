-- Timer0's counter read in two halves (02, P2): "Reading $005 should freeze the low nibble, and the next read of $004 should return the frozen one and release it".
use Rattle.std.specs.Prelude.{ℕ, ◌%◌, Bool, ltb, eqb}
use Rattle.lent.specs.Lent.{pick, both}
use Rattle.sh_halves.specs.declared.Frozen.{Frozen}

-- "the frozen nibble and its mark"
abbrev pub frozen : ℕ → ℕ → Frozen
frozen nibble mark = record { nibble = nibble; mark = mark }

-- "both 0 when released"
unfoldable pub released_of : Frozen
released_of = frozen 0 0

-- the counter's low nibble as it stands; a nibble 0 has the mark too
unfoldable pub frozen_of : ℕ → Frozen
frozen_of counter = frozen (counter % 16) 1

-- what $004 reads as: "the frozen one"; "without one, $004 reads live"
unfoldable pub low_of : Frozen → ℕ → ℕ
low_of f counter = pick (eqb f.mark 1) f.nibble (counter % 16)

-- what a record may hold: "4 judges both"
unfoldable pub frozen_fits : Frozen → Bool
frozen_fits f = pick (eqb f.mark 0) (eqb f.nibble 0) (both (eqb f.mark 1) (ltb f.nibble 16))
