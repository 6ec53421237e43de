-- Computed over all rows: a mnemonic has two to five letters, and each operand's digits say every number that it may be.
use Rattle.std.specs.Prelude.{None, Option, Some}
use Rattle.std.specs.Option.{IfSome}
use mathlib.Core.Path.{◌≡◌, refl}
use mathlib.Core.Bool.{Bool, true}
use Prim.Native.Nat.{ℕ, ◌+◌, ◌<◌, ◌^◌}
use native.Mathlib.Omega.{arith}
use lib.Dec.{ltb}
use lib.ListN.{length}
use borrow.Author.Tests.{lt-ltb, ltb-true}
use Rattle.lent.specs.Lent.{pick, both}
use Rattle.lent.proofs.Laws.{both_true}
use Rattle.word.proofs.Every.{every, every_at}
use Rattle.mnemonics.specs.declared.Kind.{Kind}
use Rattle.mnemonics.specs.Mnemonics.{Fair, table, row_of, name_of}

abbrev fair : Option Kind → Bool
fair None = true
fair (Some k) = both (ltb k.digits 4) (ltb k.below (16 ^ k.digits + 1))

is_fair : (k : Option Kind) → fair k ≡ true → IfSome k Fair
is_fair None e = tt
is_fair (Some k) e =
    let t = both_true (ltb k.digits 4) (ltb k.below (16 ^ k.digits + 1)) e in
    let f = ltb-true k.below (16 ^ k.digits + 1) t.1 in
    record { few = ltb-true k.digits 4 t.0; fits = omega arith }

abbrev few : ℕ → Bool
few m = both (ltb 1 m) (ltb m 6)

abbrev tested : ℕ → Bool
tested n = pick (ltb n 44) (both (few (length (row_of n).name)) (both (fair (row_of n).first) (fair (row_of n).second))) true

all_tested : every tested 6 0 ≡ true
unfolding every row_of table
all_tested = refl

row_tested : (n : ℕ) → n < 44 → both (few (length (row_of n).name)) (both (fair (row_of n).first) (fair (row_of n).second)) ≡ true
row_tested n h =
    let z : 0 + n ≡ n = omega arith in
    let e : tested n ≡ true = rw z at (every_at tested 6 0 n all_tested (omega arith)) in
    rw (lt-ltb n 44 h) at e

module _ (n : ℕ) (h : n < 44) where
  pub row_name : name_of n ≡ (row_of n).name
  unfolding name_of
  row_name = rw (lt-ltb n 44 h) refl

  pub letters_some : (1 < length (row_of n).name) × (length (row_of n).name < 6)
  letters_some =
      let m = length (row_of n).name in
      let t = both_true (ltb 1 m) (ltb m 6) (both_true (few m) (both (fair (row_of n).first) (fair (row_of n).second)) (row_tested n h)).0 in
      (ltb-true 1 m t.0, ltb-true m 6 t.1)

  pub letters_few : length (row_of n).name < 6
  letters_few = letters_some.1

  pub kinds_fair : IfSome (row_of n).first Fair × IfSome (row_of n).second Fair
  kinds_fair =
      let t = both_true (fair (row_of n).first) (fair (row_of n).second) (both_true (few (length (row_of n).name)) (both (fair (row_of n).first) (fair (row_of n).second)) (row_tested n h)).1 in
      (is_fair (row_of n).first t.0, is_fair (row_of n).second t.1)
