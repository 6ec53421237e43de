-- The tables of a cross-reference (02, P7), place by place: 1,024 numbers for the cells, 4,096 for the program's addresses.
use Rattle.std.specs.Prelude.{Bool, true, false, not, List, [], ◌∷◌, ℕ, ◌+◌, ◌-◌, ltb, eqb, length, drop}
use Rattle.lent.specs.Lent.{pick, both, at, map_from}
use Rattle.tables.specs.Key.{none, key_of, under}

-- the lowest address kept under a cell, of words of which the first stands at a
unfoldable pub first_from : ℕ → List ℕ → ℕ → ℕ
first_from c [] a = none
first_from c (w ∷ p) a = pick (under w c) a (first_from c p (a + 1))

-- the same, from address a of a program on
unfoldable pub first_of : List ℕ → ℕ → ℕ → ℕ
first_of p c a = first_from c (drop a p) a

-- A place belongs to a cell and tells the lowest address kept under it from some address on: place c to cell c, from 0 on; place
-- 1,024 + a to the cell that address a is kept under, from a + 1 on.
unfoldable pub cell_at : List ℕ → ℕ → ℕ
cell_at p i = pick (ltb i 1024) i (key_of (at p (i - 1024)))

unfoldable pub from_at : ℕ → ℕ
from_at i = pick (ltb i 1024) 0 (i - 1024 + 1)

unfoldable pub fresh_at : List ℕ → ℕ → ℕ
fresh_at p i = first_of p (cell_at p i) (from_at i)

-- the lent numbers after a fresh build: 5,120 are written, and what lies beyond them stays
unfoldable pub built_of : List ℕ → List ℕ → List ℕ
built_of p t = map_from (λ i v. pick (ltb i 5120) (fresh_at p i) v) t 0

unfoldable pub same_of : List ℕ → List ℕ → Bool
same_of [] [] = true
same_of [] (b ∷ m) = false
same_of (a ∷ l) [] = false
same_of (a ∷ l) (b ∷ m) = both (eqb a b) (same_of l m)

-- the tables match the program: there are 5,120 numbers or more, and a fresh build leaves every one as it is
unfoldable pub matches_of : List ℕ → List ℕ → Bool
matches_of p t = both (not (ltb (length t) 5120)) (same_of t (built_of p t))
