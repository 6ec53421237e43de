-- `host::list::asked`: the answer of the list's call, either way, in bytes.
use Rattle.host.proofs.Lists.{counted_told, counted_within, refused_told_lem}
use Rattle.wire.proofs.Laws.{length_words}
use Rattle.host.proofs.list.asked.Goals as goal

pub fill-requires : goal.fill-requires
fill-requires c = search (counted_told, refused_told_lem, counted_within, length_words)

pub returns-in-Ok : goal.returns-in-Ok
returns-in-Ok c = search (counted_told, refused_told_lem, counted_within, length_words)

pub returns-in-Err : goal.returns-in-Err
returns-in-Err c = search (counted_told, refused_told_lem, counted_within, length_words)
