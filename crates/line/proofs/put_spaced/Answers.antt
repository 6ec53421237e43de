-- `line::put_spaced`: the number, then the space.
use Rattle.line.proofs.Laws.{spaced_laid}
use Rattle.line.proofs.put_spaced.Goals as goal

pub returns : goal.returns
returns c = spaced_laid _ _ _ _ _ c.put_number.ensures c.poke.ensures
