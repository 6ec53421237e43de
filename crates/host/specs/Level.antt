-- level, for C (01, "Panel book"): the level, or what stood there where it is refused.
use Rattle.std.specs.Prelude.{ℤ, ℕ, List}
use Rattle.level.specs.Level.{level_of, Levels, levelled_told}

unfoldable pub host_level_of : List ℕ → List ℕ → ℤ → Levels
host_level_of memory body old = levelled_told (level_of memory body) old
