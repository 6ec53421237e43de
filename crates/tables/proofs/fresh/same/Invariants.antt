-- `tables::fresh::same`: the invariant is the pass, with its slots; the links that have been passed are as they must be.
use Rattle.tables.proofs.Passed.{Linked, Slotted}
use Rattle.wire.specs.Words.{words_of}
use Rattle.tables.proofs.fresh.same.Given as goal

abbrev pub invariant-loop-a : goal.invariant-loop-a
invariant-loop-a l =
    Slotted (words_of l.program 4096) l.heads l.a × Linked (words_of l.program 4096) l.tables l.a
