-- `host::listings::galhoveia_listing_write`: the same test.
use borrow.Author.Tests.{eq-eqb, ne_eqb}
use Rattle.host.proofs.Laws.{filled_said}
use Rattle.host.specs.Listings.{host_listing_write_of}
use Rattle.host.specs.Told.{room_told}
use Rattle.paper.specs.Listing.{written_told}
use Rattle.host.proofs.listings.galhoveia_listing_write.Goals as goal

pub returns-then-program-ne-PROGRAM : goal.returns-then-program-ne-PROGRAM
unfolding host_listing_write_of room_told written_told
returns-then-program-ne-PROGRAM c = search (eq-eqb, ne_eqb, filled_said)

pub returns : goal.returns
unfolding host_listing_write_of room_told written_told
returns c = search (eq-eqb, ne_eqb, filled_said)
