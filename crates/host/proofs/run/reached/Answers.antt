-- `host::run::reached`: by where the run came.
use Rattle.call_run.specs.Run.{reason_told}
use Rattle.host.proofs.Laws.{reached_at}
use Rattle.host.proofs.run.reached.Goals as goal

pub returns-in-Address : goal.returns-in-Address
unfolding reason_told
returns-in-Address c = search reached_at

pub returns-in-End : goal.returns-in-End
unfolding reason_told
returns-in-End c = search reached_at
