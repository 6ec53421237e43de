-- `text::shows`: what is left of the text starts with the name.
use Rattle.text.proofs.Laws.{starts_at}
use Rattle.text.proofs.shows.Goals as goal

pub returns : goal.returns
returns c = starts_at c.args.name.now c.args.text.now c.args.p c.min.ensures c.starts_with.ensures.value
