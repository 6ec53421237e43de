-- `host::list::galhoveia_list`: the same test.
use borrow.Author.Tests.{eq-eqb, ne_eqb}
use Rattle.host.proofs.Laws.{filled_said}
use Rattle.host.specs.List.{host_list_of}
use Rattle.writers.specs.Answer.{listed_told}
use Rattle.host.specs.Told.{room_told}
use Rattle.host.proofs.list.galhoveia_list.Goals as goal

pub returns-then-program-ne-PROGRAM : goal.returns-then-program-ne-PROGRAM
unfolding host_list_of room_told listed_told
returns-then-program-ne-PROGRAM c = search (eq-eqb, ne_eqb, filled_said)

pub returns : goal.returns
unfolding host_list_of room_told listed_told
returns c = search (eq-eqb, ne_eqb, filled_said)
