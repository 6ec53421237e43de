-- `call_two::script::fine_by_one`: what stands behind the last entry.
use native.Mathlib.Omega.{arith}
use Rattle.call_two.proofs.Scripts.{entries_end}
use Rattle.call_two.proofs.script.fine_by_one.Goals as goal

pub returns : goal.returns
returns c = entries_end c.args.entries.now c.loop-i.ok {i = c.loop-i.i} (omega arith) c.both.ensures c.loop-i.invariant
