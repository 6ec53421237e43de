-- What a pin reset leaves of a register, and what a reset does past the map.
use mathlib.Core.Path.{◌≡◌, refl, sym}
use Prim.Native.Nat.{ℕ, zero, suc, ◌≤◌}
use native.Mathlib.Omega.{arith}
use lib.Bits.{bit_and, or_zero_r}
use lib.ListN.{replicate}
use borrow.Author.Tests.{ne_eqb}
use Rattle.lent.specs.Lent.{at}
use Rattle.sh_map.proofs.Laws.{kind_past}
use Rattle.sh_reset.specs.declared.reset.Column.{Column}
use Rattle.sh_reset.specs.declared.reset.Column.TheVariants.{Pin, Watchdog}
use Rattle.sh_reset.specs.Reset.{register_stays, stays_in, rises_of, sets_of, reset_cell_of}

-- zeros, and 0 past their end
pub zeros_at : (n a : ℕ) → 0 ≡ at (replicate n 0) a
zeros_at zero a = refl
zeros_at (suc n) zero = refl
zeros_at (suc n) (suc a) = zeros_at n a

pub pin_register : (a : ℕ) → 0 ≡ at (register_stays Pin) a
unfolding register_stays
pin_register a = zeros_at 32 a

rises_past : (c : Column) (a : ℕ) → 0x378 ≤ a → rises_of c a ≡ 0
unfolding rises_of
rises_past Pin a h = rw (ne_eqb a 0x13 (omega arith))
rises_past Watchdog a h = rw (ne_eqb a 0x1E (omega arith))

pub reset_past : (c : Column) (o a v : ℕ) → 0x10000 ≤ a → bit_and v 15 ≡ reset_cell_of c o a v
unfolding reset_cell_of stays_in sets_of
reset_past c o a v h = rw (kind_past a (omega arith), ne_eqb a 0x0C (omega arith), rises_past c a (omega arith)) (sym (or_zero_r (bit_and v 15)))
