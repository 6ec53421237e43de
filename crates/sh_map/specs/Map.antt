-- The memory map: what each address is and which bits it holds (01, "What is lent"; 003, 3.1 and 3.2).
use Rattle.std.specs.Prelude.{ℕ, Bool, true, false, List, [], ◌∷◌, ltb}
use Rattle.lent.specs.Lent.{pick, at}
use Rattle.sh_map.specs.declared.map.Kind.{Kind}
use Rattle.sh_map.specs.declared.map.Kind.TheVariants.{Register, Data, Display, Scan, Sound, Unmapped}

-- 003, 3.1: system register $000-$01F, $370-$377 (sound); data $020-$16F; LCD RAM $300-$348; scan $358-$36D
unfoldable pub kind_of : ℕ → Kind
kind_of a =
    pick (ltb a 0x020) Register
    (pick (ltb a 0x170) Data
    (pick (ltb a 0x300) Unmapped
    (pick (ltb a 0x349) Display
    (pick (ltb a 0x358) Unmapped
    (pick (ltb a 0x36E) Scan
    (pick (ltb a 0x370) Unmapped
    (pick (ltb a 0x378) Sound Unmapped)))))))

-- 003, 3.2, a row for each register: the bits that it can hold. 01, "What is lent": $004, $005, $006, $00F and $01F hold nothing,
-- and neither do bit 3 of $007, $011 and $012 and bit 2 of $014
unfoldable pub register_bits : List ℕ
register_bits =
    15 ∷ 15 ∷ 15 ∷ 15 ∷ 0 ∷ 0 ∷ 0 ∷ 7
    ∷ 15 ∷ 15 ∷ 15 ∷ 15 ∷ 15 ∷ 15 ∷ 15 ∷ 0
    ∷ 15 ∷ 7 ∷ 7 ∷ 15 ∷ 11 ∷ 15 ∷ 15 ∷ 15
    ∷ 15 ∷ 15 ∷ 15 ∷ 15 ∷ 15 ∷ 15 ∷ 15 ∷ 0 ∷ []

-- the same, less what a write leaves as it is: bits 0-1 of $00C and bit 3 of $01E (01, "One instruction")
unfoldable pub register_written : List ℕ
register_written =
    15 ∷ 15 ∷ 15 ∷ 15 ∷ 0 ∷ 0 ∷ 0 ∷ 7
    ∷ 15 ∷ 15 ∷ 15 ∷ 15 ∷ 12 ∷ 15 ∷ 15 ∷ 0
    ∷ 15 ∷ 7 ∷ 7 ∷ 15 ∷ 11 ∷ 15 ∷ 15 ∷ 15
    ∷ 15 ∷ 15 ∷ 15 ∷ 15 ∷ 15 ∷ 15 ∷ 7 ∷ 0 ∷ []

-- the bits that a cell of a kind can hold
unfoldable pub held_in : Kind → ℕ → ℕ
held_in Register a = at register_bits a
held_in Data a = 15
held_in Display a = 15
held_in Scan a = 15
held_in Sound a = 15
held_in Unmapped a = 0

-- the bits that a write to a cell of a kind stores
unfoldable pub written_in : Kind → ℕ → ℕ
written_in Register a = at register_written a
written_in Data a = 15
written_in Display a = 15
written_in Scan a = 15
written_in Sound a = 15
written_in Unmapped a = 0

unfoldable pub held_of : ℕ → ℕ
held_of a = held_in (kind_of a) a

unfoldable pub written_of : ℕ → ℕ
written_of a = written_in (kind_of a) a

-- a cell that can be asked for: data, display or scan (01, refusal 8)
unfoldable pub askable_in : Kind → Bool
askable_in Register = false
askable_in Data = true
askable_in Display = true
askable_in Scan = true
askable_in Sound = false
askable_in Unmapped = false

unfoldable pub askable_of : ℕ → Bool
askable_of a = askable_in (kind_of a)

-- the display's cells (01, "Panel book": an element's display address)
unfoldable pub display_in : Kind → Bool
display_in Register = false
display_in Data = false
display_in Display = true
display_in Scan = false
display_in Sound = false
display_in Unmapped = false

unfoldable pub display_of : ℕ → Bool
display_of a = display_in (kind_of a)
