-- Under which cell a word is kept (02, P7): that which it names, where the word can leave it with another value; $00F, where it writes
-- through it. It is the list's own test seen from the other side: the address that a word names and whether what it writes there can
-- differ (theorem `key_tested` says of both that they tell the same).
use Rattle.std.specs.Prelude.{Bool, true, ℕ, eqb}
use Rattle.lent.specs.Lent.{pick, both}
use Rattle.sh_map.specs.Map.{askable_of}
use Rattle.writers.specs.Bits.{named_of, may_of}

-- no address, and no cell
abbrev pub none : ℕ
none = 4096

-- "for every data, display and scan cell its writers"; "writers through $00F are kept once": there
unfoldable pub keeps_of : ℕ → Bool
keeps_of c = pick (eqb c 0x0F) true (askable_of c)

-- a cell, if addresses are kept under it
unfoldable pub kept_of : ℕ → ℕ
kept_of c = pick (keeps_of c) c none

-- its cell, $00F or none
unfoldable pub key_of : ℕ → ℕ
key_of w = pick (may_of w) (kept_of (named_of w)) none

-- the word is kept under the cell
unfoldable pub under : ℕ → ℕ → Bool
under w c = both (keeps_of c) (eqb (key_of w) c)
