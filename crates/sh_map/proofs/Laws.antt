-- What lies past the map.
use mathlib.Core.Path.{◌≡◌}
use Prim.Native.Nat.{ℕ, ◌≤◌}
use native.Mathlib.Omega.{arith}
use borrow.Author.Tests.{le-ltb}
use Rattle.sh_map.specs.declared.map.Kind.TheVariants.{Unmapped}
use Rattle.sh_map.specs.Map.{kind_of, held_in, held_of}

-- past the map nothing is mapped, and nothing is held
pub kind_past : (a : ℕ) → 0x378 ≤ a → kind_of a ≡ Unmapped
unfolding kind_of
kind_past a h =
    simp (le-ltb a 0x020 (omega arith), le-ltb a 0x170 (omega arith), le-ltb a 0x300 (omega arith), le-ltb a 0x349 (omega arith), le-ltb a 0x358 (omega arith), le-ltb a 0x36E (omega arith), le-ltb a 0x370 (omega arith), le-ltb a 0x378 h)

pub held_past : (a : ℕ) → 0x378 ≤ a → held_of a ≡ 0
unfolding held_of held_in
held_past a h = rw (kind_past a h)
