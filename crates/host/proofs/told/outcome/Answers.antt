-- `host::told::outcome`: by the outcome.
use Rattle.host.proofs.Laws.{outcome_at}
use Rattle.answer.specs.Answer.{outcome_told}
use Rattle.host.proofs.told.outcome.Goals as goal

pub returns-in-Ok : goal.returns-in-Ok
unfolding outcome_told
returns-in-Ok c = search outcome_at

pub returns-in-Err : goal.returns-in-Err
unfolding outcome_told
returns-in-Err c = search outcome_at
