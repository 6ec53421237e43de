-- Which words are listed: by decodeOf, and by the ranges as 01 prints them.
use Rattle.std.specs.Prelude.{ℕ, zero, suc, ◌+◌, ◌^◌, Bool, true, false, List, [], ◌∷◌, leb, Err, Ok, Result}
use Rattle.lent.specs.Lent.{pick, both}
use Rattle.word.specs.Word.{decode_of}
use Rattle.refusal.specs.declared.Refusal.{Refusal}
use Rattle.word.specs.declared.Instruction.{Instruction}

abbrev pub is_listed : Result Instruction Refusal → Bool
is_listed (Ok i) = true
is_listed (Err why) = false

-- the word is read as an instruction
abbrev pub listed : ℕ → Bool
listed w = is_listed (decode_of w)

-- the first and the last word of each range that 01, "Instruction words", names
abbrev pub ranges : List (ℕ × ℕ)
ranges =
    (0x0000, 0xBFFF)  -- codes 0-23
    ∷ (0xC000, 0xC7FF)  -- CALL
    ∷ (0xCB00, 0xCB7F)  -- DAA
    ∷ (0xCD00, 0xCD7F)  -- DAS
    ∷ (0xD000, 0xD0FF)  -- RTNW
    ∷ (0xD400, 0xD400)  -- RTNI
    ∷ (0xD800, 0xD800)  -- HALT
    ∷ (0xDC00, 0xDC00)  -- STOP
    ∷ (0xE000, 0xEFFF)  -- JMP
    ∷ (0xF000, 0xF000)  -- SHR
    ∷ (0xF7FF, 0xF7FF)  -- TJMP
    ∷ (0xFFFF, 0xFFFF)  -- NOP
    ∷ []

-- the word lies in one of the ranges
unfoldable pub within : ℕ → List (ℕ × ℕ) → Bool
within w [] = false
within w (r ∷ rs) = pick (both (leb r.0 w) (leb w r.1)) true (within w rs)

abbrev pub named_by01 : ℕ → Bool
named_by01 w = within w ranges

-- how many of the 2 ^ k numbers from b on pass a test
unfoldable pub how_many : (ℕ → Bool) → ℕ → ℕ → ℕ
how_many f zero b = pick (f b) 1 0
how_many f (suc k) b = how_many f k b + how_many f k (b + 2 ^ k)
