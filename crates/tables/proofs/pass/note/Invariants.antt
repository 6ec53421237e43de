-- `tables::pass::note`: the invariant is that the slots up to i hold their own numbers, and no other is touched.
use Rattle.tables.specs.Pass.{Noted}
use Rattle.tables.proofs.pass.note.Given as goal

abbrev pub invariant-loop-i : goal.invariant-loop-i
invariant-loop-i l = Noted l.from l.i l.initial.places l.places
