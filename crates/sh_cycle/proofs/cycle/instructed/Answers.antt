-- `sh_cycle::cycle::instructed`: a listed word is executed.
use Rattle.sh_cycle.proofs.Read.{listed_by}
use Rattle.sh_cycle.proofs.cycle.instructed.Goals as goal

pub returns : goal.returns
returns c = search listed_by
