-- `host::two::short`: both cars judged, and what is told of it.
use mathlib.Core.Path.{◌∙◌}
use Rattle.host.proofs.Cars.{short_two_lem}
use Rattle.host.proofs.Laws.{judged_is}
use Rattle.host.proofs.two.short.Goals as goal

pub returns : goal.returns
returns c = short_two_lem _ _ _ _ c.car_judged.ensures c.car_judged-2.ensures c.lowest-j.ensures (c.outcome.ensures ∙ judged_is _)
