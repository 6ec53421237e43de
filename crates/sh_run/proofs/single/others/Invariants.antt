-- `sh_run::single::others`: what it ensures, as far as it has come.
use Rattle.sh_run.specs.Stretch.{Onward}
use Rattle.sh_state.specs.State.{state}
use mathlib.Core.Bool.{false}
use Rattle.sh_run.proofs.single.others.Given as goal

abbrev pub invariant-loop-i : goal.invariant-loop-i
invariant-loop-i l =
    Onward l.program l.target l.script l.first (state l.initial.m l.initial.memory) false (state l.m l.memory) l.i
