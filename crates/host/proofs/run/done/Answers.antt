-- `host::run::done`: the record read, the run made, the record written back.
use Rattle.host.proofs.Laws.{run_told_lem}
use Rattle.host.proofs.run.done.Goals as goal

pub returns : goal.returns
returns c = run_told_lem _ _ _ _ _ _ _ _ _ _ _ _ c.words_of-w.ensures c.record_of-m.ensures c.run-a.ensures c.requires c.write_record.ensures c.tell.ensures
