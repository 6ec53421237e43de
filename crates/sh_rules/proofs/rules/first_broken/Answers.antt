-- `sh_rules::rules::first_broken`: the place that the search finds is the first that breaks.
use Rattle.std.proofs.Common.{rules, ◌≡◌, false, ◌<◌, length}
use Rattle.std.specs.Prelude.{MatchOption}
use Rattle.lent.specs.Lent.{at}
use Rattle.sh_rules.proofs.Spans.{first_of_fits}
use Rattle.sh_rules.specs.Rules.{cell_fits}
use Rattle.sh_rules.specs.Spans.{FitBelow}
use Rattle.sh_rules.proofs.rules.first_broken.Goals as goal

pub returns : goal.returns
returns c =
    let l = c.args.memory.now in
    let e : MatchOption c.position.result (FitBelow l (length l)) (λ i. (i < length l) × FitBelow l i × (cell_fits i (at l i) ≡ false)) = search rules in
    first_of_fits l c.position.result e
