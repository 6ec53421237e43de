-- What lent bytes and words hold and are left with, for every index: what stands past the end reads as 0, and a store there does nothing.
use Rattle.std.specs.Prelude.{ℕ, zero, suc, ◌+◌, ◌*◌, ◌/◌, ◌%◌, Bool, true, false, List, [], ◌∷◌, ◌++◌, ltb, length, get_or, set, take, drop, None, Option, Some}
use Rattle.std.specs.Int.Bits.{bit_or}

-- the first where the test holds, else the second
abbrev pub pick : {A : Type 0} → Bool → A → A → A
pick true a b = a
pick false a b = b

abbrev pub both : Bool → Bool → Bool
both true b = b
both false b = false

-- what stands at a place, and 0 past the end
abbrev pub at : List ℕ → ℕ → ℕ
at l i = get_or l i 0

-- two bytes as a number, high byte first (01: "high byte first", in a book and in the record)
unfoldable pub pair_at_of : List ℕ → ℕ → ℕ
pair_at_of l i = 256 * at l i + at l (i + 1)

-- a number in two bytes, high byte first
unfoldable pub pair_set_of : List ℕ → ℕ → ℕ → List ℕ
pair_set_of l i v = set (set l i (v / 256 % 256)) (i + 1) (v % 256)

-- the bytes `from` in place of as many from i on; nothing where they do not fit
unfoldable pub pasted_of : List ℕ → ℕ → List ℕ → List ℕ
pasted_of l i from = pick (ltb (length l) (i + length from)) l (take i l ++ from ++ drop (i + length from) l)

-- a list at the front of a room, and then what stood beyond it ("Bytes beyond what is written stay")
unfoldable pub over : List ℕ → List ℕ → List ℕ
over l o = l ++ drop (length l) o

-- the bits of n bytes from a on, taken together
unfoldable pub joined_of : List ℕ → ℕ → ℕ → ℕ
joined_of l a zero = 0
joined_of l a (suc n) = bit_or (joined_of l a n) (at l (a + n))

-- each element by its place, from place i on
unfoldable pub map_from : (ℕ → ℕ → ℕ) → List ℕ → ℕ → List ℕ
map_from f [] i = []
map_from f (v ∷ l) i = f i v ∷ map_from f l (i + 1)

-- the first place, from i on, whose element does not pass a test of place and element
unfoldable pub fails_from : (ℕ → ℕ → Bool) → List ℕ → ℕ → Option ℕ
fails_from f [] i = None
fails_from f (v ∷ l) i = pick (f i v) (fails_from f l (i + 1)) (Some i)
