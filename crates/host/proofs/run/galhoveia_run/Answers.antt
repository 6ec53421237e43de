-- `host::run::galhoveia_run`: the same tests in the same order.
use borrow.Author.Tests.{eq-eqb, ne_eqb}
use Rattle.host.specs.Run.{host_run_of}
use Rattle.host.proofs.Laws.{ran_said}
use Rattle.host.proofs.run.galhoveia_run.Goals as goal

pub returns-then-program-ne-PROGRAM : goal.returns-then-program-ne-PROGRAM
unfolding host_run_of
returns-then-program-ne-PROGRAM c = search (eq-eqb, ne_eqb, ran_said)

pub returns-then-bytes-ne-BYTES : goal.returns-then-bytes-ne-BYTES
unfolding host_run_of
returns-then-bytes-ne-BYTES c = search (eq-eqb, ne_eqb, ran_said)

pub returns : goal.returns
unfolding host_run_of
returns c = search (eq-eqb, ne_eqb, ran_said)
