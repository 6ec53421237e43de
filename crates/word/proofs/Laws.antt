-- Laws that the proofs of this crate cite: fields that a test keeps in range.
use mathlib.Core.Path.{◌≡◌}
use mathlib.Core.Bool.{true}
use Prim.Native.Nat.{ℕ, ◌<◌}
use lib.Dec.{ltb}
use borrow.Author.Tests.{ltb-true, lt-ltb}
use Rattle.lent.specs.Lent.{both}
use Rattle.lent.proofs.Laws.{both_true}

pub both_below : (x m y n : ℕ) → both (ltb x m) (ltb y n) ≡ true → (x < m) × (y < n)
both_below x m y n e =
    let p = both_true (ltb x m) (ltb y n) e in
    (ltb-true x m p.0, ltb-true y n p.1)

pub both_lt : (x m y n : ℕ) → x < m → y < n → both (ltb x m) (ltb y n) ≡ true
both_lt x m y n h k = rw (lt-ltb x m h, lt-ltb y n k)
