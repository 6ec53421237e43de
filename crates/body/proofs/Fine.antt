-- What a body that is not turned down says of its length.
use Rattle.std.specs.Prelude.{Ok}
use mathlib.Core.Path.{◌≡◌, refl, sym}
use mathlib.Core.Bool.{Bool, true, false}
use Prim.Native.Nat.{ℕ, ◌/◌, ◌%◌, ◌≤◌}
use native.Mathlib.Omega.{arith}
use lib.Dec.{ltb, eqb}
use borrow.Author.Tests.{ltb-true, ltb-false, eqb-true}
use Rattle.lent.specs.Lent.{pick}
use Rattle.refusal.specs.declared.Refusal.{Refusal}
use Rattle.body.specs.Body.{wiring_length_fits, length_fits, told}

pub told_fine : (t : Bool) (why : Refusal) → told t why ≡ Ok tt → t ≡ true
unfolding told
told_fine true why e = refl
told_fine false why e = cc

-- a length that kind 2 takes
wiring_by : (a b c : Bool) → pick a (pick b false c) false ≡ true → (a ≡ true) × ((b ≡ false) × (c ≡ true))
wiring_by true true c e = (refl, (sym e, cc))
wiring_by true false c e = (refl, (refl, e))
wiring_by false b c e = (e, (cc, cc))

pub wiring_length : (n : ℕ) → length_fits 2 n ≡ true → (n % 3 ≡ 0) × ((1 ≤ n / 3) × (n / 3 ≤ 240))
unfolding length_fits wiring_length_fits
wiring_length n e =
    let f = wiring_by (eqb (n % 3) 0) (ltb (n / 3) 1) (ltb (n / 3) 241) e in
    let most = ltb-true (n / 3) 241 f.1.1 in
    (eqb-true (n % 3) 0 f.0, (ltb-false (n / 3) 1 f.1.0, omega arith))

pub program_length : (n : ℕ) → length_fits 1 n ≡ true → n ≡ 8192
unfolding length_fits
program_length n e = eqb-true n 8192 e

pub level_length : (n : ℕ) → length_fits 3 n ≡ true → n ≡ 5
unfolding length_fits
level_length n e = eqb-true n 5 e
