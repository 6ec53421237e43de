-- `tables::fresh::same_heads`: the invariant is that the flag tells of the first i cells' numbers whether they are as noted.
use native.Mathlib.Omega.{arith}
use lib.Dec.{eqb}
use borrow.Author.Tests.{eqb-false, eqb-true}
use Rattle.lent.proofs.Laws.{never, test}
use mathlib.Core.Path.{sym, ◌∙◌}
use Rattle.tables.proofs.fresh.same_heads.Goals as goal
use Rattle.tables.proofs.fresh.same_heads.Goals.{then-tables-i, else-tables-i}

pub loop-i-init : goal.loop-i-init
loop-i-init c = (λ _ k h. absurd (omega arith), λ e. never (sym e))

pub loop-i-preserved : goal.loop-i-preserved
loop-i-preserved c =
    let l = c.loop-i in
    elim c.if-tables-i.branch [
      | then-tables-i j ↦ (λ e. never (sym j.same-is ∙ e), λ _ f. j.if-tables-i.true (f l.i (omega arith)))
      | else-tables-i j ↦ (
        λ e k h. test (eqb k l.i) (λ t. let q = eqb-true k l.i t in rw q j.if-tables-i.false)
            (λ t. let q = eqb-false k l.i t in l.invariant.0 (sym j.same-is ∙ e) k (omega arith)),
        λ e. l.invariant.1 (sym j.same-is ∙ e),
      )
    ]

pub returns : goal.returns
returns c = let l = c.loop-i in (λ e k h. l.invariant.0 e k (omega arith), l.invariant.1)
