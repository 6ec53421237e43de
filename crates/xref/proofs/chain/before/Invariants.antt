-- `xref::chain::before`: the invariant is that the place belongs to the cell and begins at the address or before it.
use Rattle.tables.specs.Tables.{cell_at, from_at}
use Rattle.wire.specs.Words.{words_of}
use Prim.Native.Nat.{◌-◌, ◌<◌, ◌≤◌}
use mathlib.Core.Path.{◌≡◌}
use Rattle.xref.proofs.chain.before.Given as goal

abbrev pub invariant-loop-i : goal.invariant-loop-i
invariant-loop-i l = (l.i < 5120) × (cell_at (words_of l.program 4096) l.i ≡ l.cell) × (from_at l.i ≤ l.address)

abbrev pub decreases-loop-i : goal.decreases-loop-i
decreases-loop-i l = l.address - from_at l.i
