-- `host::step::galhoveia_step`: the same tests in the same order.
use borrow.Author.Tests.{eq-eqb, ne_eqb}
use Rattle.host.specs.Step.{host_step_of}
use Rattle.host.proofs.Laws.{stepped_said}
use Rattle.host.proofs.step.galhoveia_step.Goals as goal

pub returns-then-program-ne-PROGRAM : goal.returns-then-program-ne-PROGRAM
unfolding host_step_of
returns-then-program-ne-PROGRAM c = search (eq-eqb, ne_eqb, stepped_said)

pub returns-then-bytes-ne-BYTES : goal.returns-then-bytes-ne-BYTES
unfolding host_step_of
returns-then-bytes-ne-BYTES c = search (eq-eqb, ne_eqb, stepped_said)

pub returns : goal.returns
unfolding host_step_of
returns c = search (eq-eqb, ne_eqb, stepped_said)
