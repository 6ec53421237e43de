-- `host::run::refused`: the same test.
use borrow.Author.Tests.{eq-eqb, ne_eqb}
use Rattle.host.proofs.Laws.{stopped_by_other, stopped_by_word}
use Rattle.host.proofs.run.refused.Goals as goal

pub returns-then-number-eq6 : goal.returns-then-number-eq6
returns-then-number-eq6 c = stopped_by_word _ _ _ _ c.number.ensures (eq-eqb _ _ c.if-number-eq6.true) c.refused.ensures

pub returns : goal.returns
returns c = stopped_by_other _ _ _ _ c.number.ensures (ne_eqb _ _ c.if-number-eq6.false) c.refused-2.ensures
