-- `sh_two::gather`: what was gathered, and the car's own of what is left, are its own of the part.
use lib.ListN.{take}
use Rattle.sh_two.specs.Two.{own_of}
use Rattle.sh_two.specs.Alone.{part_of}
use mathlib.Core.List.{◌++◌}
use Prim.Native.Nat.{◌-◌, ◌≤◌}
use mathlib.Core.Path.{◌≡◌}
use Rattle.sh_two.proofs.gather.Given as goal

abbrev pub invariant-loop-i : goal.invariant-loop-i
invariant-loop-i l = record {
  few : l.n ≤ l.i - l.first;
  whole : take l.n l.events ++ own_of l.number (part_of l.script l.i l.end) ≡ own_of l.number (part_of l.script l.first l.end);
}
