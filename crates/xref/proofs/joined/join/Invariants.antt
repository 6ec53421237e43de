-- `xref::joined::join`: the invariant is the walk of both chains.
use Rattle.xref.proofs.Join.{Joining}
use Rattle.wire.specs.Words.{words_of}
use Prim.Native.Nat.{◌-◌}
use Rattle.xref.proofs.joined.join.Given as goal

abbrev pub invariant-loop-a : goal.invariant-loop-a
invariant-loop-a l = Joining (words_of l.program 4096) l.cell l.own l.pointed l.a l.n l.found l.initial.found

abbrev pub decreases-loop-a : goal.decreases-loop-a
decreases-loop-a l = 4096 - l.a
