-- `tables::fresh::write`: the invariant is the pass, with its slots and links.
use Rattle.tables.proofs.Passed.{Linked, Slotted}
use Rattle.lent.specs.Lent.{at}
use lib.ListN.{length}
use Rattle.wire.specs.Words.{words_of}
use Prim.Native.Nat.{ℕ, ◌≤◌}
use mathlib.Core.Path.{◌≡◌}
use Rattle.tables.proofs.fresh.write.Given as goal

abbrev pub invariant-loop-a : goal.invariant-loop-a
invariant-loop-a l =
    (length l.tables ≡ length l.initial.tables) × Slotted (words_of l.program 4096) l.heads l.a × Linked (words_of l.program 4096) l.tables l.a
    × ((i : ℕ) → 5120 ≤ i → at l.tables i ≡ at l.initial.tables i)
