-- `paper::size`: what is counted and what is still to be counted make the whole.
use lib.ListN.{drop, length}
use Rattle.paper.specs.Listing.{lines_of, listing_of}
use Prim.Native.Nat.{◌*◌, ◌+◌, ◌≤◌}
use mathlib.Core.Path.{◌≡◌}
use Rattle.paper.proofs.size.Given as goal

abbrev pub invariant-loop-w : goal.invariant-loop-w
invariant-loop-w l = (l.n ≤ l.w-index * 21) × (l.n + length (lines_of l.w-index (drop l.w-index l.program)) ≡ length (listing_of l.program))
