-- Bits taken together are no less than any of them.
use mathlib.Core.Path.{◌≡◌}
use mathlib.Core.List.{List}
use Prim.Native.Nat.{ℕ, zero, suc, ◌+◌, ◌-◌, ◌<◌, ◌≤◌}
use native.Mathlib.Omega.{arith}
use lib.Bits.{bit_or, and_le_l, and_le_r, or_add_and}
use lib.Dec.{eqb}
use lib.ListN.{length, take, drop, get_or}
use native.Mathlib.Numerals.{add-one}
use Rattle.std.proofs.Common.{length-take}
use Rattle.std.proofs.lemmas.List.{get_or-take, get_or-drop}
use borrow.Author.Tests.{eqb-true, eqb-false}
use Rattle.lent.specs.Lent.{at, joined_of}
use Rattle.lent.proofs.Laws.{test}

or_above : (a b : ℕ) → (a ≤ bit_or a b) × (b ≤ bit_or a b)
or_above a b = (omega (arith, or_add_and a b, and_le_r a b), omega (arith, or_add_and a b, and_le_l a b))

-- one byte of a part more
pub joined_on : (l : List ℕ) (a n i b : ℕ) → i < length (take n (drop a l)) → b ≡ joined_of l a i → bit_or b (get_or (take n (drop a l)) i 0) ≡ joined_of l a (i + 1)
unfolding joined_of
joined_on l a n i b h p =
    let k : i < n = omega (arith, length-take n (drop a l)) in
    rw (add-one i, get_or-take n (drop a l) i 0 k, get_or-drop a l i 0, p)

above : (l : List ℕ) (a n k : ℕ) → k < n → at l (a + k) ≤ joined_of l a n
unfolding joined_of
above l a zero k h = absurd (omega arith)
above l a (suc n) k h =
    test (eqb k n) (λ t. let e = eqb-true k n t in rw e (or_above (joined_of l a n) (at l (a + n))).1)
    (λ t. let e = eqb-false k n t in omega (arith, (or_above (joined_of l a n) (at l (a + n))).0, above l a n k (omega arith)))

pub joined_above : (l : List ℕ) (a e i : ℕ) → a ≤ i → i < e → at l i ≤ joined_of l a (e - a)
joined_above l a e i h k = let f : a + (i - a) ≡ i = omega arith in rw (← f) (above l a (e - a) (i - a) (omega arith))
