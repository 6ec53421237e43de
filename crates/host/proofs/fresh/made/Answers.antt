-- `host::fresh::made`: the machine made, the record written.
use Rattle.host.proofs.Laws.{answer_told}
use Rattle.host.proofs.fresh.made.Goals as goal

pub returns : goal.returns
returns c = answer_told _ _ _ _ _ c.fresh-a.ensures c.requires c.write_record.ensures c.outcome.ensures
