-- `host::books::galhoveia_book_read`: two calls, as the definition has them.
use Rattle.host.proofs.Laws.{book_read_told}
use Rattle.host.proofs.books.galhoveia_book_read.Goals as goal

pub returns : goal.returns
returns c = book_read_told _ _ c.read-a.ensures c.tell_read.ensures
