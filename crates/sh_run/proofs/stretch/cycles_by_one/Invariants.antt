-- `sh_run::stretch::cycles_by_one`: the invariant is that what stands before i are cycles.
use Rattle.sh_run.specs.Stretch.{Cycles}
use Rattle.sh_run.proofs.stretch.cycles_by_one.Given as goal

abbrev pub invariant-loop-i : goal.invariant-loop-i
invariant-loop-i l = Cycles l.script l.first l.i l.end
