-- `sh_two::by_itself`: the entries that are left make of the car what all of them do.
use Rattle.sh_two.specs.Alone.{alone_of, from}
use Rattle.sh_two.specs.Two.{car, entries_of}
use Rattle.sh_state.specs.State.{state}
use Rattle.sh_run.specs.declared.Stop.TheVariants as stop
use Prim.Native.Nat.{◌-◌, ◌≤◌}
use mathlib.Core.Path.{◌≡◌}
use Rattle.sh_two.proofs.by_itself.Given as goal

abbrev pub invariant-loop-i : goal.invariant-loop-i
invariant-loop-i l = record {
  within : l.i ≤ l.all;
  whole : alone_of l.program (from l.script l.i) (car l.number l.target (state l.m l.memory) stop.End) l.i ≡ alone_of l.program (entries_of l.script) (car l.number l.target (state l.initial.m l.initial.memory) stop.End) 0;
}

abbrev pub decreases-loop-i : goal.decreases-loop-i
decreases-loop-i l = l.all - l.i
