-- `body::wiring_fits`: the search goes over every element.
use Rattle.std.proofs.Common.{rules}
use Rattle.std.proofs.lemmas.Iterator.{cases_from_all, YieldsList-from_range}
use mathlib.Core.Path.{◌≡◌}
use mathlib.Core.Bool.{true, false}
use native.Mathlib.Omega.{arith}
use lib.ListN.{length}
use Prim.Native.Nat.{◌/◌}
use Rattle.body.specs.Body.{element_fits, wiring_fits}
use Rattle.body.proofs.Laws.{elements_by}
use Rattle.body.proofs.wiring_fits.Goals as goal

pub returns : goal.returns
unfolding wiring_fits
returns c =
    let w = c.args.wiring.now in
    let n = length w / 3 in
    elements_by w n c.all.result
    (cases_from_all _ _ _ (λ k. element_fits w k ≡ true) (λ k. element_fits w k ≡ false) c.all.ensures.ran
    (YieldsList-from_range 0 n n (cc) (omega arith))
    (λ x q k. search rules)
    (λ x q k. search rules))
