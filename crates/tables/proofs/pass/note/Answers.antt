-- `tables::pass::note`: the invariant is that the slots up to i hold their own numbers, and no other is touched.
use native.Mathlib.Omega.{arith}
use lib.Dec.{eqb}
use borrow.Author.Tests.{eqb-false, eqb-true}
use lib.Seq.{get_or-set_other, get_or-set_same}
use lib.ListN.{length-set}
use mathlib.Core.Path.{refl, ◌∙◌}
use Rattle.lent.proofs.Laws.{test}
use Rattle.tables.proofs.pass.note.Goals as goal

pub loop-i-init : goal.loop-i-init
loop-i-init c = record { size = refl; inside = λ k h j. absurd (omega arith); below = λ k h. refl; above = λ k h. refl }

pub bounds-places-i : goal.bounds-places-i
bounds-places-i c = omega (arith, c.loop-i.invariant.size)

pub loop-i-preserved : goal.loop-i-preserved
loop-i-preserved c =
    let l = c.loop-i in
    let v = l.invariant in
    record {
      size = length-set l.places l.i l.i ∙ v.size;
      inside = λ k h j.
          test (eqb k l.i) (λ t. let q = eqb-true k l.i t in rw q (get_or-set_same l.places l.i l.i 0 (omega (arith, v.size))))
          (λ t. let q = eqb-false k l.i t in get_or-set_other l.places l.i k l.i 0 q ∙ v.inside k h (omega arith));
      below = λ k h. get_or-set_other l.places l.i k l.i 0 (λ q. absurd (omega arith)) ∙ v.below k h;
      above = λ k h. get_or-set_other l.places l.i k l.i 0 (λ q. absurd (omega arith)) ∙ v.above k (omega arith);
    }

pub returns : goal.returns
returns c =
    let l = c.loop-i in
    let v = l.invariant in
    record { size = v.size; inside = λ k h j. v.inside k h (omega arith); below = v.below; above = λ k h. v.above k (omega arith) }
