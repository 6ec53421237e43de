-- `host::told::amount`: by the answer.
use Rattle.host.proofs.Laws.{count_at, counted_said}
use Rattle.host.specs.Told.{count_told}
use Rattle.host.proofs.told.amount.Goals as goal

pub returns-in-Ok : goal.returns-in-Ok
unfolding count_told
returns-in-Ok c = search (count_at, counted_said)

pub returns-in-Err : goal.returns-in-Err
unfolding count_told
returns-in-Err c = search (count_at, counted_said)
