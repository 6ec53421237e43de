-- What a record may hold of a frozen nibble, and that freezing and releasing keep it.
use mathlib.Core.Path.{◌≡◌}
use Prim.Native.Nat.{ℕ, ◌<◌}
use mathlib.Core.Bool.{true}
use native.Mathlib.Omega.{arith}
use lib.Dec.{ltb, eqb}
use borrow.Author.Tests.{ltb-true, eqb-true, lt-ltb, eq-eqb}
use Rattle.lent.proofs.Laws.{both_true, by_eq}
use Rattle.sh_halves.specs.declared.Frozen.{Frozen}
use Rattle.sh_halves.specs.Halves.{released_of, frozen_of, low_of, frozen_fits}

-- a nibble with the mark 1, or 0 and 0
pub record FrozenFit (f : Frozen) : Type 0 where
  pub nibble : f.nibble < 16
  pub mark : f.mark < 2
  pub none : f.mark ≡ 0 → f.nibble ≡ 0

pub frozen_fit : (f : Frozen) → frozen_fits f ≡ true → FrozenFit f
unfolding frozen_fits
frozen_fit f e =
    by_eq (λ b. b ≡ true → FrozenFit f) f.mark 0 _ _
    (λ t h. let z = eqb-true f.nibble 0 h in record { nibble = omega arith; mark = omega arith; none = λ _. z })
    (λ t h. let b = both_true (eqb f.mark 1) (ltb f.nibble 16) h in
    let m = eqb-true f.mark 1 b.0 in
    record { nibble = ltb-true f.nibble 16 b.1; mark = omega arith; none = λ z. absurd (t z) }) e

pub frozen_judged : (f : Frozen) → FrozenFit f → frozen_fits f ≡ true
unfolding frozen_fits
frozen_judged f g =
    by_eq (λ b. b ≡ true) f.mark 0 _ _
    (λ t. eq-eqb f.nibble 0 (g.none t))
    (λ t. let o : f.mark ≡ 1 = omega (arith, g.mark, t) in rw (eq-eqb f.mark 1 o, lt-ltb f.nibble 16 g.nibble))

pub released_fits : FrozenFit released_of
unfolding released_of
released_fits = record { nibble = omega arith; mark = omega arith; none = λ z. z }

pub frozen_fits_lem : (counter : ℕ) → FrozenFit (frozen_of counter)
unfolding frozen_of
frozen_fits_lem counter = record { nibble = omega arith; mark = omega arith; none = λ z. absurd (omega arith) }

-- what $004 reads as is a nibble
pub low_small : (f : Frozen) (counter : ℕ) → FrozenFit f → low_of f counter < 16
unfolding low_of
low_small f counter g = by_eq (λ n. n < 16) f.mark 1 _ _ (λ _. g.nibble) (λ _. omega arith)
