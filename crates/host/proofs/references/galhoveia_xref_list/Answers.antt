-- `host::references::galhoveia_xref_list`: the call, and what is told of it.
use mathlib.Core.Path.{◌∙◌}
use Rattle.host.proofs.Tables.{list_counts, list_told}
use Rattle.host.proofs.references.galhoveia_xref_list.Goals as goal

pub returns : goal.returns
returns c = list_told _ _ _ _ _ c.list-a.ensures (c.amount.ensures ∙ list_counts _ _)
