-- `sh_rules::rules::within`: the bits taken together are no less than any of them.
use Rattle.sh_rules.proofs.Spans.{within_by}
use Rattle.sh_rules.proofs.rules.within.Goals as goal

pub returns : goal.returns
returns c = within_by _ _ _ _ _ c.joined.ensures
