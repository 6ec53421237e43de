-- `tables::pass::bases`: the invariant is that the first i follow the rule.
use native.Mathlib.Omega.{arith}
use Rattle.tables.specs.Pass.{base_of}
use lib.ListN.{length-replicate, length-set}
use Rattle.tables.proofs.Choices.{ruled_on}
use Prim.Native.Nat.{ℕ}
use mathlib.Core.Path.{◌∙◌}
use Rattle.tables.proofs.pass.bases.Goals as goal

pub loop-i-init : goal.loop-i-init
loop-i-init c = (length-replicate {A = ℕ} 512 0, λ k h. absurd (omega arith))

pub loop-i-preserved : goal.loop-i-preserved
loop-i-preserved c =
    let l = c.loop-i in
    let n = l.invariant.0 in
    (length-set l.b l.i c.base.result ∙ n, ruled_on base_of l.b l.i _ (omega arith) l.invariant.1 c.base.ensures)

pub returns : goal.returns
returns c = let l = c.loop-i in (l.invariant.0, λ k h. l.invariant.1 k (omega arith))
