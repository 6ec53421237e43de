-- `host::fresh::galhoveia_fresh`: the same tests in the same order.
use borrow.Author.Tests.{eq-eqb, le-ltb, lt-ltb, ne_eqb}
use Rattle.host.specs.Fresh.{host_fresh_of}
use Rattle.host.proofs.Laws.{stepped_said}
use Rattle.host.proofs.fresh.galhoveia_fresh.Goals as goal

pub returns-then-memory-ne-CELLS : goal.returns-then-memory-ne-CELLS
unfolding host_fresh_of
returns-then-memory-ne-CELLS c = search (lt-ltb, le-ltb, eq-eqb, ne_eqb, stepped_said)

pub returns-then-bytes-ne-BYTES : goal.returns-then-bytes-ne-BYTES
unfolding host_fresh_of
returns-then-bytes-ne-BYTES c = search (lt-ltb, le-ltb, eq-eqb, ne_eqb, stepped_said)

pub returns-then-options-lt8 : goal.returns-then-options-lt8
unfolding host_fresh_of
returns-then-options-lt8 c = search (lt-ltb, le-ltb, eq-eqb, ne_eqb, stepped_said)

pub returns : goal.returns
unfolding host_fresh_of
returns c = search (lt-ltb, le-ltb, eq-eqb, ne_eqb, stepped_said)
