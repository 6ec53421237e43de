-- `lent::paste`: the invariant is that the first k bytes are copied.
use lib.ListN.{length}
use lib.Seq.{paste}
use mathlib.Core.Path.{◌≡◌}
use Rattle.lent.proofs.paste.Given as goal

abbrev pub invariant-loop-k : goal.invariant-loop-k
invariant-loop-k l = (length l.bytes ≡ length l.initial.bytes) × (l.bytes ≡ paste l.initial.bytes l.i l.from l.k)
