-- `sh_reset::reset::reset_memory`: the cells before i are reset, and resetting the rest gives what resetting the whole gives.
use lib.ListN.{drop, take}
use Rattle.lent.specs.Lent.{map_from}
use Rattle.sh_reset.specs.Reset.{reset_cell_of}
use mathlib.Core.List.{◌++◌}
use mathlib.Core.Path.{◌≡◌}
use Rattle.sh_reset.proofs.reset.reset_memory.Given as goal

abbrev pub invariant-loop-i : goal.invariant-loop-i
invariant-loop-i l =
    take l.i l.memory ++ map_from (reset_cell_of l.column l.options) (drop l.i l.memory) l.i ≡ map_from (reset_cell_of l.column l.options) l.initial.memory 0
