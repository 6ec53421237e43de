-- `paper::good_lines`: the good lines so far and those that follow are the whole.
use lib.ListN.{drop, length}
use Rattle.paper.specs.Listing.{good_from, good_lines, lines_of, listing_of}
use Rattle.text.specs.Text.{laid_of}
use Prim.Native.Nat.{◌*◌, ◌+◌, ◌-◌, ◌≤◌}
use mathlib.Core.Path.{◌≡◌}
use Rattle.paper.proofs.good_lines.Given as goal

abbrev pub invariant-loop-a : goal.invariant-loop-a
invariant-loop-a l =
    (l.p ≤ l.a * 21)
    × (l.a + length (good_from (4096 - l.a) l.a (drop l.p l.text)) ≡ length (good_lines l.text))
    × (l.p + length (lines_of l.a (good_from (4096 - l.a) l.a (drop l.p l.text))) ≡ length (listing_of (good_lines l.text)))
    × (laid_of l.words l.a (good_from (4096 - l.a) l.a (drop l.p l.text)) ≡ laid_of l.initial.words 0 (good_lines l.text))
