-- `sh_run::stretch::awake`: what it ensures, as far as it has come, and what a stretch needs of the machine.
use Rattle.sh_ticks.specs.Clock.{Quiet, room_of}
use Rattle.sh_run.specs.Stretch.{Onward, before_of}
use Rattle.sh_state.specs.State.{state}
use mathlib.Core.Bool.{false}
use Prim.Native.Nat.{◌-◌, ◌≤◌}
use mathlib.Core.Path.{◌≡◌}
use Rattle.sh_run.proofs.stretch.awake.Given as goal

abbrev pub invariant-loop-m : goal.invariant-loop-m
invariant-loop-m l = record {
  so_far : Onward l.program l.target l.script l.first (state l.fn.start l.initial.memory) false (before_of l.m l.mode l.first l.c l.memory l.i) l.i;
  within : l.i ≤ l.end;
  quiet : Quiet l.m l.memory l.mode;
  awake : l.m.mode ≡ 0;
  room : l.room ≡ room_of l.m l.mode;
}

abbrev pub decreases-loop-m : goal.decreases-loop-m
decreases-loop-m l = l.end - l.i
