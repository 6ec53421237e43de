-- `host::books::galhoveia_book_write`: two calls, as the definition has them.
use mathlib.Core.Path.{◌∙◌}
use Rattle.host.proofs.Laws.{book_counts, book_told}
use Rattle.host.proofs.books.galhoveia_book_write.Goals as goal

pub returns : goal.returns
returns c = book_told _ _ _ _ _ _ _ c.write-a.ensures (c.amount.ensures ∙ book_counts _ _)
