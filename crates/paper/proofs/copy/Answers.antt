-- `paper::copy`: the words, and what lies behind them.
use Rattle.paper.proofs.Laws.{over_front}
use Rattle.paper.proofs.copy.Goals as goal

pub returns : goal.returns
returns c = over_front c.args.room.now c.copy_from_slice.ensures.after
