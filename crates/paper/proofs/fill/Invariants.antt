-- `paper::fill`: what is laid and what is still to be laid is the whole.
use lib.ListN.{drop}
use Rattle.text.specs.Text.{laid_of}
use Rattle.paper.specs.Listing.{lines_of, listing_of}
use Prim.Native.Nat.{◌*◌, ◌≤◌}
use mathlib.Core.Path.{◌≡◌}
use Rattle.paper.proofs.fill.Given as goal

abbrev pub invariant-loop-a : goal.invariant-loop-a
invariant-loop-a l = (l.p ≤ l.a * 21) × (laid_of l.room l.p (lines_of l.a (drop l.a l.program)) ≡ laid_of l.initial.room 0 (listing_of l.program))
