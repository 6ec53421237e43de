-- `wire::record::record_of`: each field from its own bytes.
use Rattle.wire.specs.Record.{record_of}
use Rattle.wire.proofs.record.record_of.Goals as goal

pub returns : goal.returns
unfolding record_of
returns c = simp (c.pair_at-s0.ensures, c.pair_at-s1.ensures, c.pair_at-s2.ensures, c.pair_at-s3.ensures, c.pair_at-s4.ensures, c.pair_at-s5.ensures, c.pair_at-s6.ensures, c.pair_at-s7.ensures, c.pair_at-pc.ensures, c.pair_at-prescaler.ensures, c.pair_at-watchdog.ensures, c.pair_at-address.ensures, c.channels_at-channels.ensures, c.frozen_at-frozen.ensures, c.peek.ensures, c.peek-2.ensures, c.peek-3.ensures, c.peek-4.ensures, c.peek-5.ensures, c.peek-6.ensures, c.peek-7.ensures, c.peek-8.ensures, c.peek-9.ensures, c.peek-10.ensures, c.peek-11.ensures, c.peek-12.ensures, c.peek-13.ensures)
