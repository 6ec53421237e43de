-- `paper::take`: 4,096 good lines and nothing behind them, or not.
use mathlib.Core.Path.{ap}
use Rattle.refusal.specs.declared.Refusal.TheVariants.{Listing}
use Rattle.paper.proofs.Laws.{whole_all, whole_behind, whole_few}
use Rattle.paper.proofs.take.Goals as goal

pub returns-then-f-ne-WORDS : goal.returns-then-f-ne-WORDS
returns-then-f-ne-WORDS c =
    let f = c.good_lines-f.ensures.0 in
    let w = whole_few _ f.0 f.1 c.if-f-ne-WORDS.true in
    (w.0, ap Listing w.1, c.good_lines-f.ensures.1)

pub returns-then-f-text : goal.returns-then-f-text
returns-then-f-text c =
    let f = c.good_lines-f.ensures.0 in
    let w = whole_behind _ f.0 f.1 c.if-f-ne-WORDS.false c.if-f-text.true in
    (w.0, ap Listing w.1, c.good_lines-f.ensures.1)

pub returns : goal.returns
returns c =
    let f = c.good_lines-f.ensures.0 in
    whole_all _ f.0 f.1 c.if-f-ne-WORDS.false _ c.if-f-text.false c.requires c.good_lines-f.ensures.1
