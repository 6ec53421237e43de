-- A program on paper (02, P3): the listing that the writer gives, what the reader takes, and the refusals of both.
use Rattle.std.specs.Prelude.{ℕ, zero, suc, ◌+◌, ◌<◌, ◌≤◌, ◌≡◌, Bool, true, List, [], ◌∷◌, ◌++◌, ltb, eqb, length, drop, Err, None, Ok, Option, Result, Some}
use Rattle.lent.specs.Lent.{pick, both, at, over}
use Rattle.lent.specs.Outcome.{Outcome, outcome}
use Rattle.refusal.specs.declared.Refusal.TheVariants.{ProgramLength, Room, Listing}
use Rattle.refusal.specs.Told.{Said, Counted, counted, done_told, refused_told}
use Rattle.text.specs.Text.{begins}
use Rattle.line.specs.Line.{line_of, line_in}
use Rattle.refusal.specs.declared.Refusal.{Refusal}

-- the lines of words, the first at address a: "one line per address"
unfoldable pub lines_of : ℕ → List ℕ → List ℕ
lines_of a [] = []
lines_of a (w ∷ p) = line_of a w ++ lines_of (a + 1) p

-- THE LISTING of a program
unfoldable pub listing_of : List ℕ → List ℕ
listing_of p = lines_of 0 p

-- 7 for room, with the length of this listing; bytes beyond what is written stay
unfoldable pub placed_of : List ℕ → List ℕ → Outcome (Result ℕ Refusal)
placed_of l room =
    pick (ltb (length room) (length l))
    (outcome (Err (Room (length l))) room)
    (outcome (Ok (length l)) (over l room))

-- THE WRITER: 1, then 7; its answer and what the room then holds
unfoldable pub write_of : List ℕ → List ℕ → Outcome (Result ℕ Refusal)
write_of p room =
    pick (eqb (length p) 4096) (placed_of (listing_of p) room) (outcome (Err (ProgramLength (length p))) room)

-- a word in front of what follows it; nothing where there is no word
abbrev pub word_first : Option ℕ → (ℕ → List ℕ) → List ℕ
word_first None rest = []
word_first (Some w) rest = w ∷ rest w

-- the words of the good lines that a text begins with, at most n of them, the first for address a
unfoldable pub good_from : ℕ → ℕ → List ℕ → List ℕ
good_from zero a t = []
good_from (suc n) a t = word_first (line_in a t) (λ w. good_from n (a + 1) (drop (length (line_of a w)) t))

-- THE GOOD LINES that a text begins with, at most 4,096: their words
unfoldable pub good_lines : List ℕ → List ℕ
good_lines t = good_from 4096 0 t

-- there are 4,096 of them, and nothing behind them
unfoldable pub whole : List ℕ → Bool
whole t = both (eqb (length (good_lines t)) 4096) (eqb (length (listing_of (good_lines t))) (length t))

-- 7 for room, with 4,096 words; words beyond what is written stay
unfoldable pub stored_of : List ℕ → List ℕ → Outcome (Result (Unit {0}) Refusal)
stored_of p room =
    pick (ltb (length room) 4096) (outcome (Err (Room 4096)) room) (outcome (Ok tt) (over p room))

-- THE READER: "26 for a text that isn't such a listing, with the first bad line, counted from 0", which is the number of good lines in front; then 7
unfoldable pub read_of : List ℕ → List ℕ → Outcome (Result (Unit {0}) Refusal)
read_of t room =
    pick (whole t) (stored_of (good_lines t) room) (outcome (Err (Listing (length (good_lines t)))) room)

-- what is told of a writing: how many bytes, beside
unfoldable pub written_told : Result ℕ Refusal → ℕ → Counted
written_told (Ok n) count = counted done_told n
written_told (Err why) count = counted (refused_told why) count

-- what is told of a reading
unfoldable pub taken_told : Result (Unit {0}) Refusal → Said
taken_told (Ok tt) = done_told
taken_told (Err why) = refused_told why

-- What the theorems say.

-- a list of words of 16 bits
abbrev pub AllWords : List ℕ → Type 0
AllWords p = (i : ℕ) → at p i < 65536

-- a text begins with the lines of n words
pub record Begins (t : List ℕ) (n : ℕ) : Type 0 where
  pub words : List ℕ
  pub many : length words ≡ n
  pub sized : AllWords words
  pub there : begins (listing_of words) t ≡ true

-- n is the first bad line: the text begins with n good lines, and with no more than n of the 4,096
pub record FirstBad (t : List ℕ) (n : ℕ) : Type 0 where
  pub within : n ≤ 4096
  pub good : Begins t n
  pub most : (m : ℕ) → m ≤ 4096 → Begins t m → m ≤ n

-- a text is what the writer gives for a program
pub record Listed (t p : List ℕ) : Type 0 where
  pub many : length p ≡ 4096
  pub sized : AllWords p
  pub is : t ≡ listing_of p
