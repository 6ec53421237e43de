-- A line of a listing (02, P3): "three hex digits, the four-digit word, the mnemonic and its operands in the sheet's order and upper-case hex .., with one space between items and a line feed at the end".
use Rattle.std.specs.Prelude.{ℕ, ◌+◌, Bool, false, List, [], ◌∷◌, ◌++◌, ltb, eqb, drop, None, Option, Some}
use Rattle.lent.specs.Lent.{pick, at}
use Rattle.text.specs.Text.{hex_of, number_in, begins}
use Rattle.word.specs.Word.{decode_of}
use Rattle.mnemonics.specs.declared.Kind.{Kind}
use Rattle.mnemonics.specs.declared.Shown.{Shown}
use Rattle.mnemonics.specs.Mnemonics.{row_of, shown_of}

abbrev pub space : ℕ
space = 32

abbrev pub line_feed : ℕ
line_feed = 10

-- a number of d digits, and the space behind it
unfoldable pub spaced_of : ℕ → ℕ → List ℕ
spaced_of d v = hex_of d v ++ (space ∷ [])

-- THE OPERAND AS IT IS WRITTEN, by its kind: a space in front of its digits; nothing where there is no operand
unfoldable pub operand_of : Option Kind → ℕ → List ℕ
operand_of None v = []
operand_of (Some k) v = space ∷ hex_of k.digits v

-- a number that is below a bound
abbrev pub below : Option ℕ → ℕ → Option ℕ
below None b = None
below (Some n) b = pick (ltb n b) (Some n) None

-- THE OPERAND AS IT IS READ, by its kind: the number that stands there, where it is one that the kind may be; 0 where there is no operand
unfoldable pub operand_in : Option Kind → List ℕ → Option ℕ
operand_in None t = Some 0
operand_in (Some k) t = pick (eqb (at t 0) space) (below (number_in k.digits (drop 1 t)) k.below) None

-- how many bytes an operand takes
unfoldable pub width_of : Option Kind → ℕ
width_of None = 0
width_of (Some k) = 1 + k.digits

-- the operands and the line feed
unfoldable pub operands_of : Shown → List ℕ
operands_of s =
    operand_of (row_of s.row).first s.first ++ (operand_of (row_of s.row).second s.second ++ (line_feed ∷ []))

-- THE LINE of a word at an address
unfoldable pub line_of : ℕ → ℕ → List ℕ
line_of a w =
    let s = shown_of (decode_of w) in
    spaced_of 3 a ++ (spaced_of 4 w ++ ((row_of s.row).name ++ operands_of s))

-- the word that a line's four digits say; nothing where they are no digits
unfoldable pub word_in : List ℕ → Option ℕ
word_in t = number_in 4 (drop 4 t)

-- a text begins with the line of a word, if there is a word
abbrev pub written_for : ℕ → Option ℕ → List ℕ → Bool
written_for a None t = false
written_for a (Some w) t = begins (line_of a w) t

-- A GOOD LINE for an address: its four digits say a word, and it is what is written for that word
unfoldable pub good_of : ℕ → List ℕ → Bool
good_of a t = written_for a (word_in t) t

-- the word of a line that is good for an address
unfoldable pub line_in : ℕ → List ℕ → Option ℕ
line_in a t = pick (good_of a t) (word_in t) None
