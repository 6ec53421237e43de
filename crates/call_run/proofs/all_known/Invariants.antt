-- `call_run::all_known`: what was found and what is left give what the whole gives.
use Rattle.call_run.specs.Run.{all_known_of}
use Rattle.lent.specs.Lent.{both}
use lib.ListN.{drop}
use Prim.Native.Nat.{◌*◌}
use mathlib.Core.Path.{◌≡◌}
use Rattle.call_run.proofs.all_known.Given as goal

abbrev pub invariant-loop-k : goal.invariant-loop-k
invariant-loop-k l = both l.ok (all_known_of (drop (l.k * 64) l.script)) ≡ all_known_of l.script
