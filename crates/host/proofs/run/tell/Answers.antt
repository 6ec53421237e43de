-- `host::run::tell`: by the reason.
use Rattle.call_run.specs.Run.{reason_told}
use Rattle.host.proofs.Laws.{stopped_at}
use Rattle.host.proofs.run.tell.Goals as goal

pub returns-in-Ok : goal.returns-in-Ok
returns-in-Ok c = search stopped_at

pub returns-in-Err : goal.returns-in-Err
unfolding reason_told
returns-in-Err c = search stopped_at
