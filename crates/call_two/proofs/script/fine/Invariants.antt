-- `call_two::script::fine`: what was found and what is left give what is of the whole.
use Rattle.lent.specs.Lent.{both}
use lib.ListN.{drop}
use Rattle.call_two.specs.Script.{fine_of}
use Prim.Native.Nat.{◌*◌}
use mathlib.Core.Path.{◌≡◌}
use Rattle.call_two.proofs.script.fine.Given as goal

abbrev pub invariant-loop-k : goal.invariant-loop-k
invariant-loop-k l = both l.ok (fine_of (drop (l.k * 64) l.script)) ≡ fine_of l.script
