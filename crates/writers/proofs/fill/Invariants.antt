-- `writers::fill`: the room with what is written and what is still to be written is the whole.
use lib.ListN.{drop, length}
use mathlib.Core.Path.{◌≡◌}
use Prim.Native.Nat.{◌+◌, ◌≤◌}
use Rattle.lent.specs.Lent.{over}
use Rattle.writers.specs.List.{writers_from, writers_of}
use Rattle.writers.proofs.Laws.{placed}
use Rattle.writers.proofs.fill.Given as goal

abbrev pub invariant-loop-a : goal.invariant-loop-a
invariant-loop-a l = record {
  few : l.n ≤ l.a;
  room : length l.room ≡ length l.initial.room;
  counted : l.n + length (writers_from l.a (drop l.a l.program) l.cell) ≡ length (writers_of l.program l.cell);
  stored : placed l.n (writers_from l.a (drop l.a l.program) l.cell) l.room ≡ over (writers_of l.program l.cell) l.initial.room;
}
