-- `call_two::script::fine_by_one`: what was found and what is left give what is of the whole.
use Rattle.lent.specs.Lent.{both}
use lib.ListN.{drop}
use Rattle.call_two.specs.Script.{fine_of}
use Prim.Native.Nat.{◌*◌}
use mathlib.Core.Path.{◌≡◌}
use Rattle.call_two.proofs.script.fine_by_one.Given as goal

abbrev pub invariant-loop-i : goal.invariant-loop-i
invariant-loop-i l = both l.ok (fine_of (drop (l.i * 2) l.entries)) ≡ fine_of l.entries
