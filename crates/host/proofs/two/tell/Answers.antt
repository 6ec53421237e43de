-- `host::two::tell`: by the outcome.
use Rattle.host.proofs.Cars.{outs_at, outs_said}
use Rattle.call_two.specs.RunTwo.{outs_of}
use Rattle.host.proofs.two.tell.Goals as goal

pub returns-in-Ok : goal.returns-in-Ok
unfolding outs_of
returns-in-Ok c = search (outs_at, outs_said)

pub returns-in-Err : goal.returns-in-Err
unfolding outs_of
returns-in-Err c = search (outs_at, outs_said)
