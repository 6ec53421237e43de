-- `tables::pass::places`: range after range.
use Rattle.tables.proofs.Noting.{noted_all}
use Rattle.tables.proofs.pass.places.Goals as goal

pub returns : goal.returns
returns c = noted_all _ _ _ _ c.note.ensures c.note-2.ensures c.note-3.ensures c.note-4.ensures
