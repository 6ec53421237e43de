-- `host::books::tell_read`: by the answer.
use Rattle.host.proofs.Laws.{read_found, read_refused}
use Rattle.host.proofs.books.tell_read.Goals as goal

pub returns-in-Ok : goal.returns-in-Ok
returns-in-Ok c = search (read_found, read_refused)

pub returns-in-Err : goal.returns-in-Err
returns-in-Err c = search (read_found, read_refused)
