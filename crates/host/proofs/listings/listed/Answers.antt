-- `host::listings::listed`: the words read, the listing written.
use mathlib.Core.Path.{◌∙◌}
use Rattle.host.proofs.Paper.{listed_told_lem, listing_counts}
use Rattle.host.proofs.listings.listed.Goals as goal

pub returns : goal.returns
returns c = listed_told_lem _ _ _ _ _ _ c.words_of-w.ensures c.write-a.ensures (c.amount.ensures ∙ listing_counts _ _)
