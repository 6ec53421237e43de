-- `sh_cycle::cycle::interrupt_cycle`: two calls, as the definition has them.
use Rattle.sh_cycle.proofs.Read.{interrupted_by}
use Rattle.sh_cycle.proofs.cycle.interrupt_cycle.Goals as goal

pub returns : goal.returns
returns c = search interrupted_by
