-- `tables::pass::bases`: the invariant is that the first i follow the rule.
use Rattle.lent.specs.Lent.{at}
use Rattle.tables.specs.Pass.{base_of}
use lib.ListN.{length}
use Prim.Native.Nat.{ℕ, ◌<◌}
use mathlib.Core.Path.{◌≡◌}
use Rattle.tables.proofs.pass.bases.Given as goal

abbrev pub invariant-loop-i : goal.invariant-loop-i
invariant-loop-i l = (length l.b ≡ 512) × ((k : ℕ) → k < l.i → at l.b k ≡ base_of k)
