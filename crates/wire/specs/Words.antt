-- A program as a kind 1 body, and addresses, two bytes each, high byte first (01, "What is lent", "Panel book").
use Rattle.std.specs.Prelude.{ℕ, zero, suc, ◌*◌, ◌/◌, ◌%◌, List, [], ◌∷◌, ◌++◌, set, replicate}
use Rattle.lent.specs.Lent.{at, pair_at_of}

-- the first n words of a body
unfoldable pub words_of : List ℕ → ℕ → List ℕ
words_of l zero = []
words_of l (suc n) = words_of l n ++ pair_at_of l (n * 2) ∷ []

-- the words at two addresses, and 0 elsewhere
unfoldable pub words_at_of : List ℕ → ℕ → ℕ → List ℕ
words_at_of l a b = set (set (replicate 4096 0) a (at (words_of l 4096) a)) b (at (words_of l 4096) b)

-- a number in two bytes, and what follows
abbrev pub two : ℕ → List ℕ → List ℕ
two v l = v / 256 % 256 ∷ v % 256 ∷ l

-- the first n numbers, two bytes each
unfoldable pub pairs_of : List ℕ → ℕ → List ℕ
pairs_of w zero = []
pairs_of w (suc n) = pairs_of w n ++ two (at w n) []
