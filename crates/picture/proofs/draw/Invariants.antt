-- `picture::draw`: the first k elements are drawn.
use Rattle.std.proofs.Common.{◌≡◌, ◌<◌, ℕ, get_or}
use Rattle.picture.specs.Picture.{element_of}
use Rattle.picture.proofs.draw.Given as goal

abbrev pub invariant-loop-k : goal.invariant-loop-k
invariant-loop-k l = (j : ℕ) → j < l.k → get_or l.place-items j 0 ≡ element_of l.lit l.memory l.wiring j
