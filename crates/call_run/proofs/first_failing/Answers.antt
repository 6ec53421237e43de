-- `call_run::first_failing`: by what each call of the test gives.
use Rattle.lent.proofs.Laws.{fails_end, fails_here, fails_on}
use native.Mathlib.Omega.{arith}
use mathlib.Core.Path.{◌∙◌}
use Rattle.call_run.proofs.first_failing.Goals as goal

pub returns-then-not-passes : goal.returns-then-not-passes
returns-then-not-passes g c = λ test h. fails_here test _ _ c.loop-i-test.true _ (h _ _ _ c.passes.ensures) c.if-not-passes.true ∙ c.loop-i.invariant test h

pub loop-i-preserved : goal.loop-i-preserved
loop-i-preserved g c = λ test h. fails_on test _ _ c.loop-i-test.true _ (h _ _ _ c.passes.ensures) c.if-not-passes.false ∙ c.loop-i.invariant test h

pub returns : goal.returns
returns g c = λ test h. fails_end test c.args.bytes.now c.loop-i.i (omega arith) ∙ c.loop-i.invariant test h
