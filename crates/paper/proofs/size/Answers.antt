-- `paper::size`: what is counted and what is still to be counted make the whole.
use mathlib.Core.Path.{ap}
use native.Mathlib.Omega.{arith}
use lib.ListN.{length}
use Rattle.paper.proofs.Laws.{lines_none, size_on}
use Rattle.paper.proofs.size.Goals as goal

pub loop-w-preserved : goal.loop-w-preserved
loop-w-preserved c =
    let l = c.loop-w in
    (omega (arith, c.length-n.ensures.1, l.invariant.0), size_on c.args.program.now l.w-index l.n _ (omega arith) c.length-n.ensures.0 l.invariant.1)

pub returns : goal.returns
returns c =
    let l = c.loop-w in
    omega (arith, l.invariant.1, ap length (lines_none c.args.program.now l.w-index (omega arith)))
