-- `sh_run::run`: the invariant is that the run of what is left gives what the run of the whole gives.
use lib.ListN.{drop, length}
use Rattle.sh_run.specs.Run.{run_of}
use Rattle.sh_state.specs.State.{state}
use Prim.Native.Nat.{◌-◌, ◌≤◌}
use mathlib.Core.Path.{◌≡◌}
use Rattle.sh_run.proofs.run.Given as goal

abbrev pub invariant-loop-memory : goal.invariant-loop-memory
invariant-loop-memory l =
    (l.i ≤ length l.script) × (run_of l.program l.target (drop l.i l.script) (state l.m l.memory) l.i ≡ run_of l.program l.target l.script (state l.initial.m l.initial.memory) 0)

abbrev pub decreases-loop-memory : goal.decreases-loop-memory
decreases-loop-memory l = length l.script - l.i
