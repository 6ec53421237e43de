-- Text: numbers in upper-case hexadecimal digits (02, P3: "upper-case hex"), names in letters, what a text begins with, and what a room holds after text is laid into it.
use Rattle.std.specs.Prelude.{ℕ, zero, suc, ◌+◌, ◌-◌, ◌*◌, ◌/◌, ◌%◌, Bool, true, false, List, [], ◌∷◌, ◌++◌, ltb, eqb, None, Option, Some}
use Rattle.std.proofs.lemmas.List.Edits.{sets}
use Rattle.lent.specs.Lent.{pick, both, at}

-- 0-9 are 48-57 in ASCII, A-F are 65-70
unfoldable pub digit_of : ℕ → ℕ
digit_of v = pick (ltb v 10) (48 + v) (55 + v)

-- what a byte stands for as a digit; nothing where it is no digit
unfoldable pub value_of : ℕ → Option ℕ
value_of c =
    pick (ltb c 48) None
    (pick (ltb c 58) (Some (c - 48))
    (pick (ltb c 65) None
    (pick (ltb c 71) (Some (c - 55))
    None)))

-- the last d digits of a number
unfoldable pub hex_of : ℕ → ℕ → List ℕ
hex_of zero v = []
hex_of (suc d) v = hex_of d (v / 16) ++ (digit_of (v % 16) ∷ [])

-- a digit more behind the digits of a number
abbrev pub number_more : Option ℕ → Option ℕ → Option ℕ
number_more (Some n) (Some v) = Some (n * 16 + v)
number_more (Some n) None = None
number_more None v = None

-- the number that the first d bytes of a text say; nothing where one of them is no digit
unfoldable pub number_in : ℕ → List ℕ → Option ℕ
number_in zero t = Some 0
number_in (suc d) t = number_more (number_in d t) (value_of (at t d))

-- whether a text begins with certain bytes
unfoldable pub begins : List ℕ → List ℕ → Bool
begins [] t = true
begins (x ∷ s) [] = false
begins (x ∷ s) (y ∷ t) = both (eqb y x) (begins s t)

-- bytes laid into a room from a place on; what does not fit is dropped
unfoldable pub laid_of : List ℕ → ℕ → List ℕ → List ℕ
laid_of room p s = sets room p s
