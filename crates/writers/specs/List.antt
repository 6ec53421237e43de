-- The list of writers of a cell in a program, and what a list must be to be it.
use Rattle.std.specs.Prelude.{◌≡◌, ◌⊎◌, List, [], ◌∷◌, ℕ, ◌+◌, ◌≤◌}
use Rattle.lent.specs.Lent.{pick}
use Rattle.writers.specs.Statement.{Changes}
use Rattle.writers.specs.Test.{writes_of}

-- the addresses of the words that pass the test, where the first word stands at a
unfoldable pub writers_from : ℕ → List ℕ → ℕ → List ℕ
writers_from a [] c = []
writers_from a (w ∷ p) c = pick (writes_of w c) (a ∷ writers_from (a + 1) p c) (writers_from (a + 1) p c)

unfoldable pub writers_of : List ℕ → ℕ → List ℕ
writers_of p c = writers_from 0 p c

-- "Ascending, each once": strictly ascending, from k on
abbrev pub Up : ℕ → List ℕ → Type 0
Up k [] = Unit {0}
Up k (a ∷ l) = (k ≤ a) × Up (a + 1) l

-- a stands in the list
abbrev pub Has : ℕ → List ℕ → Type 0
Has a [] = ⊥
Has a (b ∷ l) = (a ≡ b) ⊎ Has a l

-- demand 3: it holds an address exactly when the instruction there can change the cell
pub record Listing (p : List ℕ) (c : ℕ) (l : List ℕ) : Type 0 where
  pub ascending : Up 0 l
  pub only : (a : ℕ) → Has a l → Changes p a c
  pub every : (a : ℕ) → Changes p a c → Has a l
