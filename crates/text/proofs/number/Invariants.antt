-- `text::number`: what the digits so far say.
use Rattle.std.specs.Prelude.{Some}
use lib.ListN.{drop}
use Rattle.text.specs.Text.{number_in}
use mathlib.Core.Path.{◌≡◌}
use Rattle.text.proofs.number.Given as goal

abbrev pub invariant-loop-k : goal.invariant-loop-k
invariant-loop-k l = number_in l.k (drop l.p l.text) ≡ Some l.n
