-- What a row of the table says, by the chip's own definitions.
use Rattle.std.specs.Prelude.{◌≡◌, List, [], ◌∷◌, ℕ, ℤ, replicate, set, Ok}
use Rattle.lent.specs.Lent.{at}
use Rattle.refusal.specs.Told.{said}
use Rattle.word.specs.declared.Instruction.{Instruction}
use Rattle.word.specs.Word.{decode_of, encode_of, decoded_told}
use Rattle.sh_rules.specs.Judge.{memory_judged, state_judged}
use Rattle.sh_state.specs.State.{State}
use Rattle.sh_execute.specs.Execute.{execute_of}
use Rattle.body.specs.Body.{high_cell, low_cell, ground_code, level_judged}
use Rattle.level.specs.Level.{level_of}
use Rattle.writers.specs.List.{writers_of}

infix 70 ◌is◌
infix 70 ◌has◌
-- where a number stands in a machine
pub data Place : Type 0 where
  PC : Place
  AC : Place
  CY : Place
  Cell : ℕ → Place

-- "AC 8"
pub data Fact : Type 0 where
  ◌is◌ : Place → ℕ → Fact

-- "$010 = $4820"
pub data Word : Type 0 where
  ◌has◌ : ℕ → ℕ → Word

pub data Row : Type 0 where
  -- an instruction, and what is said of the machine before it and after it
  Executed : Instruction → List Fact → List Fact → Row
  -- a word and its instruction
  Names : ℕ → Instruction → Row
  -- a word that has none
  Unlisted : ℕ → Row
  -- the high digit, the low digit, the ground, and the level
  Level : ℕ → ℕ → ℕ → ℤ → Row
  -- the words of a program that are not NOP, a cell, and its writers
  Writers : List Word → ℕ → List ℕ → Row

abbrev pub found : State → Place → ℕ
found s PC = s.machine.pc
found s AC = s.machine.ac
found s CY = s.machine.cy
found s (Cell a) = at s.memory a

abbrev pub Is : State → Fact → Type 0
Is s (p is v) = found s p ≡ v

abbrev pub All : {A : Type 0} → (A → Type 0) → List A → Type 0
All P [] = Unit {0}
All P (x ∷ l) = P x × All P l

-- a well-formed machine of which some facts hold
pub record Given (facts : List Fact) (s : State) : Type 0 where
  pub well_formed : state_judged s ≡ Ok tt
  pub said : All (Is s) facts

-- a good memory and a good level body with the digits and the ground
pub record Digits (high low ground_stop : ℕ) (memory body : List ℕ) : Type 0 where
  pub good_memory : memory_judged memory ≡ Ok tt
  pub good_body : level_judged body ≡ Ok tt
  pub high_digit : at memory (high_cell body) ≡ high
  pub low_digit : at memory (low_cell body) ≡ low
  pub its_ground : ground_code body ≡ ground_stop

abbrev pub nop_but : List Word → List ℕ
nop_but [] = replicate 4096 0xFFFF
nop_but ((a has w) ∷ l) = set (nop_but l) a w

abbrev pub Holds : Row → Type 0
-- on every such machine, and there is one
Holds (Executed i before after) =
    ((s : State) → Given before s → All (Is (execute_of s i)) after) × ((s : State) × Given before s)
-- both ways
Holds (Names w i) = (decode_of w ≡ Ok i) × (encode_of i ≡ Ok w)
-- 6, with the word
Holds (Unlisted w) = decoded_told (decode_of w) ≡ said 6 w
-- of every such memory and body, and there are some
Holds (Level high low ground_stop z) =
    ((memory body : List ℕ) → Digits high low ground_stop memory body → level_of memory body ≡ Ok z)
    × ((memory : List ℕ) × ((body : List ℕ) × Digits high low ground_stop memory body))
Holds (Writers words c l) = writers_of (nop_but words) c ≡ l
