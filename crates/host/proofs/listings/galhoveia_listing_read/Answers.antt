-- `host::listings::galhoveia_listing_read`: the words of the listing in bytes, or why it is none.
use Rattle.host.proofs.Paper.{read_told, refused_told_lem}
use Rattle.host.proofs.listings.galhoveia_listing_read.Goals as goal

pub returns-in-Ok : goal.returns-in-Ok
returns-in-Ok c = let e = c.in-Ok.ensures in read_told _ _ e.0 e.1 c.store.ensures

pub returns-in-Err : goal.returns-in-Err
returns-in-Err c = let e = c.in-Err.ensures in refused_told_lem _ _ e.0 e.1 c.refused.ensures
