-- `host::two::done`: the records read, the run made, the records written back.
use Rattle.host.proofs.Cars.{two_told_lem}
use Rattle.host.proofs.two.done.Goals as goal

pub returns : goal.returns
returns c = two_told_lem _ _ _ _ _ _ _ _ _ _ _ _ _ _ _ _ _ _ _ _ _ c.requires.0 c.requires.1 c.words_of-w.ensures c.record_of-m.ensures c.record_of-m1.ensures c.run_two-a.ensures c.write_record.ensures c.write_record-2.ensures c.tell.ensures
