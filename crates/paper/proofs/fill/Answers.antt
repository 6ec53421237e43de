-- `paper::fill`: what is laid and what is still to be laid is the whole.
use mathlib.Core.Path.{◌∙◌}
use native.Mathlib.Omega.{arith}
use Rattle.paper.proofs.Laws.{fill_end, fill_on}
use Rattle.paper.proofs.fill.Goals as goal

pub loop-a-preserved : goal.loop-a-preserved
loop-a-preserved c =
    let l = c.loop-a in
    (omega (arith, c.put-p.ensures.0.1, l.invariant.0), fill_on c.args.program.now l.a l.room l.p (omega arith) c.put-p.ensures.0.0 c.put-p.ensures.1 ∙ l.invariant.1)

pub returns : goal.returns
returns c =
    let l = c.loop-a in
    fill_end c.args.program.now l.a l.room l.p (omega arith) ∙ l.invariant.1
