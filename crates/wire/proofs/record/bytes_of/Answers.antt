-- `wire::record::bytes_of`: each byte from its own field.
use Rattle.wire.specs.Record.{bytes_of}
use Rattle.wire.specs.Words.{pairs_of}
use Rattle.wire.proofs.record.bytes_of.Goals as goal

pub returns : goal.returns
unfolding bytes_of pairs_of
returns c =
    let s = c.stack_bytes-s in
    rw s.ensures
