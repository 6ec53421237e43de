-- The mnemonics of 003, section 17, in one table, each with the kinds of its operands in the sheet's order (02, P3), and what each word shows on paper.
use Rattle.std.specs.Prelude.{ℕ, ◌+◌, ◌*◌, ◌^◌, ◌<◌, ◌≤◌, List, [], ◌∷◌, get_or, ltb, Err, None, Ok, Option, Result, Some}
use Rattle.lent.specs.Lent.{pick}
use Rattle.word.specs.declared.Instruction.{Instruction}
use Rattle.word.specs.declared.Instruction.TheVariants.{Accumulator, Memory, Lda, Sta, Immediate, Ldi, Branch, Call, Daa, Das, Rtnw, Rtni, Halt, Stop, Jmp, Shr, Tjmp, Nop}
use Rattle.word.specs.Codes.{operation_code, immediate_code, condition_code}
use Rattle.mnemonics.specs.declared.Kind.{Kind}
use Rattle.mnemonics.specs.declared.Shown.{Shown}
use Rattle.refusal.specs.declared.Refusal.{Refusal}

-- A kind of operand: how many digits it has, and below which number it is (02, P3: "addresses three digits, bank included; others one").
abbrev pub kind : ℕ → ℕ → Kind
kind d b = record { digits = d; below = b }

-- its digits say every number that it may be, and are at most three
pub record Fair (k : Kind) : Type 0 where
  pub few : k.digits < 4
  pub fits : k.below ≤ 16 ^ k.digits

abbrev pub nibble : Kind  -- I, H and L
nibble = kind 1 16

abbrev pub field_x : Kind  -- X in bank 0
field_x = kind 3 128

abbrev pub cell : Kind  -- bank x 128 + X
cell = kind 3 1024

abbrev pub near : Kind  -- a target of eleven bits
near = kind 3 2048

abbrev pub far : Kind  -- a target of twelve bits
far = kind 3 4096

-- A row of the table: a mnemonic's letters, and its first and its second operand, if it has one.
pub record Row : Type 0 where
  pub name : List ℕ
  pub first : Option Kind
  pub second : Option Kind

abbrev pub row : List ℕ → Option Kind → Option Kind → Row
row n f s = record { name = n; first = f; second = s }

-- the letters and digits of mnemonics, in ASCII
abbrev D0 : ℕ
D0 = 48

abbrev D1 : ℕ
D1 = 49

abbrev D2 : ℕ
D2 = 50

abbrev D3 : ℕ
D3 = 51

abbrev A : ℕ
A = 65

abbrev B : ℕ
B = 66

abbrev C : ℕ
C = 67

abbrev D : ℕ
D = 68

abbrev E : ℕ
E = 69

abbrev H : ℕ
H = 72

abbrev I : ℕ
I = 73

abbrev J : ℕ
J = 74

abbrev L : ℕ
L = 76

abbrev M : ℕ
M = 77

abbrev N : ℕ
N = 78

abbrev O : ℕ
O = 79

abbrev P : ℕ
P = 80

abbrev R : ℕ
R = 82

abbrev S : ℕ
S = 83

abbrev T : ℕ
T = 84

abbrev U : ℕ
U = 85

abbrev W : ℕ
W = 87

abbrev Z : ℕ
Z = 90

-- the mark of a word that is not listed ("an unlisted word has only the mark DATA there")
abbrev pub data_row : Row
data_row = row (D ∷ A ∷ T ∷ A ∷ []) None None

-- THE TABLE, by code: 0-6 without and with the memory, 7, 8-15, 16-24, then what is listed of 25-31, and the mark DATA
unfoldable pub table : List Row
table =
    row (A ∷ D ∷ C ∷ []) (Some cell) None
    ∷ row (A ∷ D ∷ C ∷ M ∷ []) (Some cell) None
    ∷ row (A ∷ D ∷ D ∷ []) (Some cell) None
    ∷ row (A ∷ D ∷ D ∷ M ∷ []) (Some cell) None
    ∷ row (S ∷ B ∷ C ∷ []) (Some cell) None
    ∷ row (S ∷ B ∷ C ∷ M ∷ []) (Some cell) None
    ∷ row (S ∷ U ∷ B ∷ []) (Some cell) None
    ∷ row (S ∷ U ∷ B ∷ M ∷ []) (Some cell) None
    ∷ row (E ∷ O ∷ R ∷ []) (Some cell) None
    ∷ row (E ∷ O ∷ R ∷ M ∷ []) (Some cell) None
    ∷ row (O ∷ R ∷ []) (Some cell) None
    ∷ row (O ∷ R ∷ M ∷ []) (Some cell) None
    ∷ row (A ∷ N ∷ D ∷ []) (Some cell) None
    ∷ row (A ∷ N ∷ D ∷ M ∷ []) (Some cell) None
    ∷ row (L ∷ D ∷ A ∷ []) (Some cell) None
    ∷ row (S ∷ T ∷ A ∷ []) (Some cell) None
    ∷ row (A ∷ D ∷ I ∷ []) (Some field_x) (Some nibble)
    ∷ row (A ∷ D ∷ I ∷ M ∷ []) (Some field_x) (Some nibble)
    ∷ row (S ∷ B ∷ I ∷ []) (Some field_x) (Some nibble)
    ∷ row (S ∷ B ∷ I ∷ M ∷ []) (Some field_x) (Some nibble)
    ∷ row (E ∷ O ∷ R ∷ I ∷ M ∷ []) (Some field_x) (Some nibble)
    ∷ row (O ∷ R ∷ I ∷ M ∷ []) (Some field_x) (Some nibble)
    ∷ row (A ∷ N ∷ D ∷ I ∷ M ∷ []) (Some field_x) (Some nibble)
    ∷ row (L ∷ D ∷ I ∷ []) (Some field_x) (Some nibble)
    ∷ row (B ∷ N ∷ Z ∷ []) (Some near) None
    ∷ row (B ∷ N ∷ C ∷ []) (Some near) None
    ∷ row (B ∷ A ∷ Z ∷ []) (Some near) None
    ∷ row (B ∷ C ∷ []) (Some near) None
    ∷ row (B ∷ A ∷ D0 ∷ []) (Some near) None
    ∷ row (B ∷ A ∷ D1 ∷ []) (Some near) None
    ∷ row (B ∷ A ∷ D2 ∷ []) (Some near) None
    ∷ row (B ∷ A ∷ D3 ∷ []) (Some near) None
    ∷ row (C ∷ A ∷ L ∷ L ∷ []) (Some near) None
    ∷ row (D ∷ A ∷ A ∷ []) (Some field_x) None
    ∷ row (D ∷ A ∷ S ∷ []) (Some field_x) None
    ∷ row (R ∷ T ∷ N ∷ W ∷ []) (Some nibble) (Some nibble)
    ∷ row (R ∷ T ∷ N ∷ I ∷ []) None None
    ∷ row (H ∷ A ∷ L ∷ T ∷ []) None None
    ∷ row (S ∷ T ∷ O ∷ P ∷ []) None None
    ∷ row (J ∷ M ∷ P ∷ []) (Some far) None
    ∷ row (S ∷ H ∷ R ∷ []) None None
    ∷ row (T ∷ J ∷ M ∷ P ∷ []) None None
    ∷ row (N ∷ O ∷ P ∷ []) None None
    ∷ data_row
    ∷ []

unfoldable pub row_of : ℕ → Row
row_of n = get_or table n data_row

-- What a line shows: a row of the table, and its operands' numbers; 0 where there is no operand.
abbrev pub shown : ℕ → ℕ → ℕ → Shown
shown n f s = record { row = n; first = f; second = s }

abbrev pub instruction_shown : Instruction → Shown
instruction_shown (Accumulator o a) = shown (operation_code o * 2) a 0
instruction_shown (Memory o a) = shown (operation_code o * 2 + 1) a 0
instruction_shown (Lda a) = shown 14 a 0
instruction_shown (Sta a) = shown 15 a 0
instruction_shown (Immediate o x i) = shown (immediate_code o + 8) x i
instruction_shown (Ldi x i) = shown 23 x i
instruction_shown (Branch c t) = shown (condition_code c + 8) t 0
instruction_shown (Call t) = shown 32 t 0
instruction_shown (Daa x) = shown 33 x 0
instruction_shown (Das x) = shown 34 x 0
instruction_shown (Rtnw h l) = shown 35 h l
instruction_shown Rtni = shown 36 0 0
instruction_shown Halt = shown 37 0 0
instruction_shown Stop = shown 38 0 0
instruction_shown (Jmp t) = shown 39 t 0
instruction_shown Shr = shown 40 0 0
instruction_shown Tjmp = shown 41 0 0
instruction_shown Nop = shown 42 0 0

-- what the reading of a word shows
unfoldable pub shown_of : Result Instruction Refusal → Shown
shown_of (Ok i) = instruction_shown i
shown_of (Err why) = shown 43 0 0

-- below which number an operand is: where there is none, it is 0
abbrev pub bound : Option Kind → ℕ
bound None = 1
bound (Some k) = k.below

-- a row's mnemonic; past the last row there is none
unfoldable pub name_of : ℕ → List ℕ
name_of n = pick (ltb n 44) (row_of n).name []

-- a row of the table, with numbers that its operands may be
pub record Fits (s : Shown) : Type 0 where
  pub row : s.row < 44
  pub first : s.first < bound (row_of s.row).first
  pub second : s.second < bound (row_of s.row).second
