-- What a span of a memory is told to keep.
use Rattle.std.specs.Prelude.{ℕ, ◌<◌, ◌≤◌, ◌≡◌, true, List}
use Rattle.lent.specs.Lent.{at}
use Rattle.sh_rules.specs.Rules.{cell_fits}

-- no byte from a on below e is above top
abbrev pub Within : List ℕ → ℕ → ℕ → ℕ → Type 0
Within l a e top = (i : ℕ) → a ≤ i → i < e → at l i ≤ top

-- every cell below e fits
abbrev pub FitBelow : List ℕ → ℕ → Type 0
FitBelow l e = (i : ℕ) → i < e → cell_fits i (at l i) ≡ true
