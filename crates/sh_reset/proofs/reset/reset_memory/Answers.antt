-- `sh_reset::reset::reset_memory`: the cells before i are reset, and resetting the rest gives what resetting the whole gives.
use Rattle.std.proofs.Common.{arith, ◌≤◌, ◌<◌, length}
use Rattle.lent.proofs.Laws.{map_end, map_on}
use Rattle.sh_reset.specs.Reset.{reset_memory_of}
use mathlib.Core.Path.{◌∙◌}
use Rattle.sh_reset.proofs.reset.reset_memory.Goals as goal

pub loop-i-preserved : goal.loop-i-preserved
loop-i-preserved c =
    let h : c.loop-i.i < length c.loop-i.memory = omega arith in
    rw c.reset_cell_at.ensures (map_on _ _ _ h ∙ c.loop-i.invariant)

pub returns : goal.returns
unfolding reset_memory_of
returns c =
    let h : length c.loop-i.memory ≤ c.loop-i.i = omega arith in
    map_end _ _ _ h ∙ c.loop-i.invariant
