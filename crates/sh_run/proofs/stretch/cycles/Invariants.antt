-- `sh_run::stretch::cycles`: the invariant is that what stands before i are cycles.
use Rattle.sh_run.specs.Stretch.{Cycles}
use Prim.Native.Nat.{◌-◌}
use Rattle.sh_run.proofs.stretch.cycles.Given as goal

abbrev pub invariant-loop-i : goal.invariant-loop-i
invariant-loop-i l = Cycles l.script l.first l.i l.end

abbrev pub decreases-loop-i : goal.decreases-loop-i
decreases-loop-i l = l.end - l.i
