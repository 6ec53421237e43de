-- `host::step::done`: the record read, the event done, the record written back.
use Rattle.host.proofs.Laws.{step_told_lem}
use Rattle.host.proofs.step.done.Goals as goal

pub returns : goal.returns
returns c = step_told_lem _ _ _ _ _ _ _ _ _ c.record_of-m.ensures c.words_at-w.ensures c.step-a.ensures c.requires c.write_record.ensures c.outcome.ensures
