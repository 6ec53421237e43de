-- The rule of the printed table, by one test that is computed over all its rows; and that each value and each N stands in it, by what is
-- computed of the numbers below 128.
use mathlib.Core.Path.{◌≡◌, ◌∙◌, refl, ap, sym}
use mathlib.Core.Bool.{Bool, true}
use Prim.Native.Nat.{ℕ, ◌-◌, ◌<◌}
use native.Mathlib.Omega.{arith}
use lib.Dec.{ltb, eqb}
use borrow.Author.Tests.{ltb-true, ltb-false, eqb-true, lt-ltb}
use Rattle.lent.specs.Lent.{pick, both}
use Rattle.lent.proofs.Laws.{both_true, test}
use Rattle.tones.specs.Tones.{printed, beside, before, divider_of, tone_of, shifted_of}
use Rattle.tones.specs.Rule.{Rule, EachOnce}
use Rattle.tones.proofs.Table.{made, same_at, rows, row_beside}

-- A row's value and N are of seven bits, the N has this value, and the value that the step makes of it has the N below.
record Row (v n : ℕ) : Type 0 where
  positive : 0 < v
  small : v < 128
  bound : n < 128
  back : tone_of n ≡ v
  down : 1 < n → divider_of (shifted_of v) ≡ n - 1

unfoldable is_row : ℕ → ℕ → Bool
is_row v n =
    both (ltb 0 v)
    (both (ltb v 128)
    (both (ltb n 128)
    (both (eqb (tone_of n) v) (pick (ltb 1 n) (eqb (divider_of (shifted_of v)) (n - 1)) true))))

row : (v n : ℕ) → is_row v n ≡ true → Row v n
unfolding is_row
row v n e =
    let a = both_true (ltb 0 v) _ e in
    let b = both_true (ltb v 128) _ a.1 in
    let c = both_true (ltb n 128) _ b.1 in
    let d = both_true (eqb (tone_of n) v) _ c.1 in
    record {
      positive = ltb-true 0 v a.0;
      small = ltb-true v 128 b.0;
      bound = ltb-true n 128 c.0;
      back = eqb-true (tone_of n) v d.0;
      down = λ h. eqb-true (divider_of (shifted_of v)) (n - 1) (rw (lt-ltb 1 n h) at d.1);
    }

all_rows : rows is_row printed ≡ true
unfolding rows is_row printed beside before divider_of tone_of shifted_of
all_rows = refl

row_of : (v : ℕ) → 0 < divider_of v → Row v (divider_of v)
unfolding divider_of
row_of v h = row v (beside printed v) (row_beside is_row printed v all_rows h)

pub divider_small : (v : ℕ) → divider_of v < 128
divider_small v =
    test (ltb 0 (divider_of v)) (λ t. (row_of v (ltb-true 0 (divider_of v) t)).bound)
    (λ t. let l = ltb-false 0 (divider_of v) t in omega arith)

each_tone : made (λ n. divider_of (tone_of n)) 128 0 ≡ made (λ n. n) 128 0
unfolding made printed beside before divider_of tone_of
each_tone = refl

pub tone_divider : (n : ℕ) → n < 128 → divider_of (tone_of n) ≡ n
tone_divider n h = same_at (λ n. divider_of (tone_of n)) (λ n. n) 128 n each_tone h

each_value : made (λ v. tone_of (divider_of v)) 128 0 ≡ made (λ v. v) 128 0
unfolding made printed beside before divider_of tone_of
each_value = refl

no_tone : tone_of 0 ≡ 0
unfolding printed before tone_of
no_tone = refl

pub divider_positive : (v : ℕ) → 0 < v → v < 128 → 0 < divider_of v
divider_positive v h k =
    let e = same_at (λ v. tone_of (divider_of v)) (λ v. v) 128 v each_value k in
    test (ltb 0 (divider_of v)) (λ t. ltb-true 0 (divider_of v) t)
    (λ t. let l = ltb-false 0 (divider_of v) t in
    let z : divider_of v ≡ 0 = omega arith in
    let y : v ≡ 0 = sym e ∙ (ap tone_of z ∙ no_tone) in
    absurd (omega arith))

pub table_once : EachOnce
unfolding printed
table_once =
    record {
      rows = refl;
      valued = λ v h k. (divider_positive v h k, divider_small v);
      others = λ v h. ((row_of v h).positive, (row_of v h).small);
      there = λ n h k. tone_divider n k;
      back = λ v h. (row_of v h).back;
    }

next : (n : ℕ) → 1 < n → n < 128 → tone_of (n - 1) ≡ shifted_of (tone_of n)
next n h k =
    let e = tone_divider n k in
    let d : divider_of (shifted_of (tone_of n)) ≡ n - 1 = rw e at ((row_of (tone_of n) (omega arith)).down (omega arith)) in
    ap tone_of (sym d) ∙ (row_of (shifted_of (tone_of n)) (omega arith)).back

pub table_rule : Rule
unfolding printed before tone_of
table_rule = record { first = refl; next = next; last = refl; down = λ v h. (row_of v (omega arith)).down h }
