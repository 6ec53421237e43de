-- `sh_run::stretch::going`: what it ensures, as far as it has come.
use Rattle.sh_run.specs.Stretch.{Going}
use Prim.Native.Nat.{◌-◌}
use mathlib.Core.Bool.{false}
use Rattle.sh_run.proofs.stretch.going.Given as goal

abbrev pub invariant-loop-i : goal.invariant-loop-i
invariant-loop-i l =
    Going l.program l.target l.script l.fn.m l.mode l.first l.end l.initial.c l.initial.memory l.begin false l.c l.memory l.i

abbrev pub decreases-loop-i : goal.decreases-loop-i
decreases-loop-i l = l.end - l.i
