-- `tables::fresh::same_heads`: the invariant is that the flag tells of the first i cells' numbers whether they are as noted.
use Rattle.tables.specs.Pass.{SameHeads}
use Rattle.lent.specs.Lent.{at}
use mathlib.Core.Bool.{false, true}
use Prim.Native.Nat.{ℕ, ◌+◌, ◌<◌}
use mathlib.Core.Path.{◌≡◌}
use Rattle.tables.proofs.fresh.same_heads.Given as goal

abbrev pub invariant-loop-i : goal.invariant-loop-i
invariant-loop-i l =
    (l.same ≡ true → (k : ℕ) → k < l.i → at l.tables k ≡ at l.heads (k + 128)) × (l.same ≡ false → SameHeads l.heads l.tables → ⊥)
