-- `host::told::short`: the memory judged before the record, and what is told of it.
use Rattle.host.proofs.Laws.{short_said}
use Rattle.host.proofs.told.short.Goals as goal

pub returns : goal.returns
returns c = short_said _ c.memory.ensures c.first-j.ensures c.outcome.ensures
