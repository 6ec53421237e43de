-- `sh_run::single::by_parts`: one event by its part, then those behind it.
use native.Mathlib.Omega.{arith}
use Rattle.sh_run.proofs.Singles.{part_by, passing}
use mathlib.Core.Path.{◌∙◌}
use Rattle.sh_run.proofs.single.by_parts.Goals as goal

pub returns : goal.returns
returns c =
    let s = c.requires in
    let o = c.others-q.ensures in
    passing (o.same ∙ part_by _ _ _ _ _ s.0 _ s.1 s.2 _ c.other-m.ensures) (omega (arith, o.from)) o.to
