-- `host::pictures::drawn`: the record read, the picture drawn.
use mathlib.Core.Path.{◌∙◌}
use Rattle.host.proofs.Laws.{drawn_counts, picture_told}
use Rattle.host.proofs.pictures.drawn.Goals as goal

pub returns : goal.returns
returns c = picture_told _ _ _ _ _ _ _ _ c.record_of-m.ensures c.picture-a.ensures (c.amount.ensures ∙ drawn_counts _ _)
