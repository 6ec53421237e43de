-- `call_run::known_by_one`: what was found and what is left give what the whole gives.
use Rattle.call_run.specs.Run.{all_known_of}
use Rattle.lent.specs.Lent.{both}
use lib.ListN.{drop}
use mathlib.Core.Path.{◌≡◌}
use Rattle.call_run.proofs.known_by_one.Given as goal

abbrev pub invariant-loop-e : goal.invariant-loop-e
invariant-loop-e l = both l.ok (all_known_of (drop l.e-index l.events)) ≡ all_known_of l.events
