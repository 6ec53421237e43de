-- `sh_two::through`: the entries passed and those through the car's entry that is left to find are those through the one that is looked for.
use Rattle.sh_two.specs.Alone.{part_of, through_of}
use Prim.Native.Nat.{◌+◌, ◌-◌}
use mathlib.Core.Path.{◌≡◌}
use Rattle.sh_two.proofs.through.Given as goal

abbrev pub invariant-loop-i : goal.invariant-loop-i
invariant-loop-i l =
    through_of l.number (part_of l.script l.i l.end) l.left + (l.i - l.first) ≡ through_of l.number (part_of l.script l.first l.end) l.j
