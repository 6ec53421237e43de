-- A test computed at each of the 2 ^ k numbers from a number on, by halves, and what it says of each.
use mathlib.Core.Path.{◌≡◌}
use mathlib.Core.Bool.{Bool, true}
use Prim.Native.Nat.{ℕ, zero, suc, ◌+◌, ◌-◌, ◌^◌, ◌<◌}
use native.Mathlib.Omega.{arith}
use native.Mathlib.Nat.{two-pow-succ}
use lib.Dec.{ltb}
use borrow.Author.Tests.{ltb-true, ltb-false}
use Rattle.lent.specs.Lent.{both}
use Rattle.lent.proofs.Laws.{test}
use Rattle.lent.proofs.Laws.{both_true}

unfoldable pub every : (ℕ → Bool) → ℕ → ℕ → Bool
every f zero b = f b
every f (suc k) b = both (every f k b) (every f k (b + 2 ^ k))

pub every_at : (f : ℕ → Bool) (k b n : ℕ) → every f k b ≡ true → n < 2 ^ k → f (b + n) ≡ true
unfolding every
every_at f zero b n e h = let z : b + n ≡ b = omega arith in rw z e
every_at f (suc k) b n e h =
    let p = both_true (every f k b) (every f k (b + 2 ^ k)) e in
    let d = two-pow-succ k in
    test (ltb n (2 ^ k)) (λ t. every_at f k b n p.0 (ltb-true n (2 ^ k) t))
    (λ t. let l = ltb-false n (2 ^ k) t in
    let z : b + n ≡ b + 2 ^ k + (n - 2 ^ k) = omega arith in
    rw z (every_at f k (b + 2 ^ k) (n - 2 ^ k) p.1 (omega arith)))
