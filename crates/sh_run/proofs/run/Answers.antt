-- `sh_run::run`: the invariant is that the run of what is left gives what the run of the whole gives.
use native.Mathlib.Omega.{arith}
use Rattle.sh_run.proofs.Stretches.{gone_at, gone_on}
use Rattle.sh_run.proofs.Singles.{passed_at, passed_on, passed_stuck}
use Rattle.sh_run.proofs.Laws.{run_end}
use mathlib.Core.Path.{◌∙◌}
use Rattle.sh_run.proofs.run.Goals as goal

pub ahead-q-requires : goal.ahead-q-requires
ahead-q-requires c = c.loop-memory.invariant.0

pub passed-o-requires : goal.passed-o-requires
passed-o-requires c = c.if-script-i.false

pub loop-memory-smaller : goal.loop-memory-smaller
loop-memory-smaller c = omega (arith, c.ahead-q.ensures.from, c.passed-o.ensures.on c.if-o.false, c.passed-o.ensures.to)

pub loop-memory-preserved : goal.loop-memory-preserved
loop-memory-preserved c =
    let v = c.loop-memory.invariant in
    (c.passed-o.ensures.to, passed_on c.passed-o.ensures c.if-o.false c.if-o-2.false ∙ (gone_on c.ahead-q.ensures c.if-q.false ∙ v.1))

pub returns-then-q : goal.returns-then-q
returns-then-q c = gone_at c.ahead-q.ensures c.if-q.true ∙ c.loop-memory.invariant.1

pub returns-then-script-i : goal.returns-then-script-i
returns-then-script-i c = run_end _ _ _ _ _ c.if-script-i.true ∙ (gone_on c.ahead-q.ensures c.if-q.false ∙ c.loop-memory.invariant.1)

pub returns-then-o : goal.returns-then-o
returns-then-o c = passed_stuck c.passed-o.ensures c.if-o.true ∙ (gone_on c.ahead-q.ensures c.if-q.false ∙ c.loop-memory.invariant.1)

pub returns-then-o-2 : goal.returns-then-o-2
returns-then-o-2 c = passed_at c.passed-o.ensures c.if-o.false c.if-o-2.true ∙ (gone_on c.ahead-q.ensures c.if-q.false ∙ c.loop-memory.invariant.1)
