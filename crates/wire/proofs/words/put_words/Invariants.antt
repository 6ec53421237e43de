-- `wire::words::put_words`: the invariant is that the first i numbers are pasted at the front.
use lib.ListN.{length}
use Rattle.wire.specs.Words.{pairs_of}
use Rattle.lent.specs.Lent.{pasted_of}
use Prim.Native.Nat.{◌*◌, ◌≤◌}
use mathlib.Core.Path.{◌≡◌}
use Rattle.wire.proofs.words.put_words.Given as goal

abbrev pub invariant-loop-i : goal.invariant-loop-i
invariant-loop-i l =
    (l.n * 2 ≤ length l.initial.out) × ((length l.out ≡ length l.initial.out) × (l.out ≡ pasted_of l.initial.out 0 (pairs_of l.ws l.i)))
