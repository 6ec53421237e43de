-- `line::put_items`: one behind the other.
use native.Mathlib.Omega.{arith}
use Rattle.line.proofs.Laws.{items_laid, name_few, named}
use Rattle.line.proofs.put_items.Goals as goal

pub put_letters-requires : goal.put_letters-requires
put_letters-requires c = omega (arith, name_few c.args.s c.requires.1 (named c.args.s c.requires.1 c.name-name.ensures), c.requires.0)

pub overflow_add-p : goal.overflow_add-p
overflow_add-p c = omega (arith, name_few c.args.s c.requires.1 (named c.args.s c.requires.1 c.name-name.ensures), c.requires.0)

pub put_operands-requires : goal.put_operands-requires
put_operands-requires c = (omega (arith, name_few c.args.s c.requires.1 (named c.args.s c.requires.1 c.name-name.ensures), c.requires.0), c.requires.1)

pub returns : goal.returns
returns c = items_laid c.args.s _ _ _ (named c.args.s c.requires.1 c.name-name.ensures) c.put_letters.ensures c.put_operands.ensures
