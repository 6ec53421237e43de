-- `sh_cycle::cycle::clock`: Timer0's part, its requests, and the record.
use Rattle.sh_cycle.proofs.Read.{clock_by}
use Rattle.sh_cycle.proofs.cycle.clock.Goals as goal

pub returns : goal.returns
returns c = search clock_by
