-- `lent::joined`: the bits of the bytes so far are taken together.
use Rattle.std.proofs.Common.{◌≡◌}
use Rattle.lent.specs.Lent.{joined_of}
use Rattle.lent.proofs.joined.Given as goal

abbrev pub invariant-loop-b : goal.invariant-loop-b
invariant-loop-b l = l.bits ≡ joined_of l.bytes l.a l.b-index
