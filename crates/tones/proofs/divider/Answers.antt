-- `tones::divider`: the table's rule says that the N found is the one printed.
use mathlib.Core.List.{List}
use mathlib.Core.Path.{ap, sym, ◌∙◌, ◌≡◌}
use native.Mathlib.Omega.{arith}
use Rattle.lent.specs.Lent.{at}
use Rattle.tones.specs.Tones.{before, divider_of, printed, tone_of}
use Rattle.tones.proofs.Rule.{divider_small, table_once, tone_divider}
use lib.Dec.{eqb}
use borrow.Author.Tests.{eqb-false, eqb-true}
use Rattle.tones.proofs.Table.{made, made_at}
use Rattle.lent.proofs.Laws.{test}
use Prim.Native.Nat.{ℕ, ◌+◌, ◌-◌, ◌<◌}
use Rattle.tones.proofs.divider.Goals as goal

unfoldable table : List ℕ
table = made (λ i. tone_of (127 - i)) 127 0

table_at : (n : ℕ) → 0 < n → n < 128 → at table (127 - n) ≡ tone_of n
unfolding table
table_at n h k =
    let z : 127 - (127 - n) ≡ n = omega arith in
    rw z at (made_at (λ i. tone_of (127 - i)) 127 (127 - n) (omega arith))

module _ (v n : ℕ) (h : 0 < n) (k : n < 128) where
  found : at table (127 - n) ≡ v → n ≡ divider_of v
  found e = sym (tone_divider n k) ∙ ap divider_of (sym (table_at n h k) ∙ e)

  missed : (at table (127 - n) ≡ v → ⊥) → (divider_of v < n → divider_of v ≡ 0) → divider_of v < n + 1 → divider_of v ≡ 0
  missed u p l =
      test (eqb (divider_of v) n)
      (λ t. let e = eqb-true (divider_of v) n t in
      absurd (u (table_at n h k ∙ (ap tone_of (sym e) ∙ table_once.back v (omega arith)))))
      (λ t. let e = eqb-false (divider_of v) n t in p (omega arith))

pub returns-then-tones-n : goal.returns-then-tones-n
unfolding table made printed before tone_of
returns-then-tones-n c = found _ c.loop-n.n (omega arith) (omega arith) c.if-tones-n.true

pub loop-n-preserved : goal.loop-n-preserved
unfolding table made printed before tone_of
loop-n-preserved c = missed _ c.loop-n.n (omega arith) (omega arith) c.if-tones-n.false c.loop-n.invariant

pub returns : goal.returns
returns c = sym (c.loop-n.invariant (omega (arith, divider_small c.args.v)))
