-- `sh_run::stretch::cycles`: the invariant is that what stands before i are cycles.
use native.Mathlib.Omega.{arith}
use Rattle.sh_run.proofs.Stretches.{cycles_on, none_yet}
use Rattle.sh_run.proofs.stretch.cycles.Goals as goal

pub loop-i-init : goal.loop-i-init
loop-i-init c = none_yet _ _ _ c.requires.0

pub many-requires : goal.many-requires
many-requires c = (c.loop-i.invariant.to, c.requires.1)

pub overflow_add-i : goal.overflow_add-i
overflow_add-i c = omega (arith, (c.many.ensures c.loop-i-test.true).to, c.ranges.end)

pub loop-i-smaller : goal.loop-i-smaller
loop-i-smaller c = omega (arith, (c.many.ensures c.loop-i-test.true).to)

pub loop-i-preserved : goal.loop-i-preserved
loop-i-preserved c = cycles_on c.loop-i.invariant (c.many.ensures c.loop-i-test.true)

pub cycles_by_one-requires : goal.cycles_by_one-requires
cycles_by_one-requires c = (c.loop-i.invariant.to, c.requires.1)

pub returns : goal.returns
returns c = cycles_on c.loop-i.invariant c.cycles_by_one.ensures
