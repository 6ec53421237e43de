-- What stands in a row of a table of 44 rows.
use Rattle.std.specs.Prelude.{ℕ, List, ◌≡◌, get_or, min}

-- x is what stands in a row; past the last row what stands in that one
unfoldable pub StandsAt : {A : Type 0} → List A → ℕ → A → Type 0
StandsAt l n x = x ≡ get_or l (min n 43) x
