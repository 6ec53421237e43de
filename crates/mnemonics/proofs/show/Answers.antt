-- `mnemonics::show`: its parts are those of the definition.
use Rattle.mnemonics.proofs.Laws.{shown_is}
use Rattle.mnemonics.proofs.show.Goals as goal

pub returns : goal.returns
returns c = shown_is _ c.row_of-row.ensures c.first_of-first.ensures c.second_of-second.ensures
