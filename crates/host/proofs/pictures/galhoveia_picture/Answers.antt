-- `host::pictures::galhoveia_picture`: the same test.
use borrow.Author.Tests.{eq-eqb, ne_eqb}
use Rattle.host.proofs.Laws.{filled_said}
use Rattle.host.specs.Picture.{host_picture_of}
use Rattle.host.proofs.pictures.galhoveia_picture.Goals as goal

pub returns-then-bytes-ne-BYTES : goal.returns-then-bytes-ne-BYTES
unfolding host_picture_of
returns-then-bytes-ne-BYTES c = search (eq-eqb, ne_eqb, filled_said)

pub returns : goal.returns
unfolding host_picture_of
returns c = search (eq-eqb, ne_eqb, filled_said)
