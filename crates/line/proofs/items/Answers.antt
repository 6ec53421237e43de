-- `line::items`: the name's letters are the row's.
use native.Mathlib.Omega.{arith}
use Rattle.line.proofs.Laws.{and_else, and_then, items_parts, name_few, named}
use mathlib.Core.Path.{◌∙◌}
use Rattle.line.proofs.items.Goals as goal

pub operands-requires : goal.operands-requires
operands-requires c = (omega (arith, name_few c.args.s c.requires.1 (named c.args.s c.requires.1 c.name-name.ensures), c.requires.0), c.requires.1)

pub returns-then-shows : goal.returns-then-shows
returns-then-shows c = c.operands.ensures ∙ and_then _ _ (items_parts c.args.s c.args.text.now c.args.p (named c.args.s c.requires.1 c.name-name.ensures) c.shows.ensures) c.if-shows.true

pub returns-else-shows : goal.returns-else-shows
returns-else-shows c = and_else _ _ (items_parts c.args.s c.args.text.now c.args.p (named c.args.s c.requires.1 c.name-name.ensures) c.shows.ensures) c.if-shows.false
