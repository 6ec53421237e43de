-- `line::operands`: one behind the other.
use native.Mathlib.Omega.{arith}
use mathlib.Core.Path.{refl}
use Rattle.line.proofs.Laws.{and_else, and_then, fair_first, fair_second, operands_off, operands_on, width_few}
use Rattle.line.proofs.operands.Goals as goal

pub width-requires : goal.width-requires
width-requires c = fair_first _ c.requires.1 c.first-k.ensures

pub overflow_add-q : goal.overflow_add-q
overflow_add-q c = omega (arith, c.width.ensures, width_few _ (fair_first _ c.requires.1 c.first-k.ensures), c.requires.0)

pub operand-requires : goal.operand-requires
operand-requires c = (omega (arith, c.requires.0), fair_first _ c.requires.1 c.first-k.ensures)

pub returns-then-ne : goal.returns-then-ne
returns-then-ne c = operands_off c.args.s c.args.text.now c.args.p c.requires.1 c.first-k.ensures refl refl refl refl c.operand.ensures c.ne.ensures c.if-ne.true

pub operand-requires-2 : goal.operand-requires-2
operand-requires-2 c = (omega (arith, c.width.ensures, width_few _ (fair_first _ c.requires.1 c.first-k.ensures), c.requires.0), fair_second _ c.requires.1 c.second-l.ensures)

pub width-requires-then-eq : goal.width-requires-then-eq
width-requires-then-eq c = fair_second _ c.requires.1 c.second-l.ensures

pub overflow_add-q-then-eq : goal.overflow_add-q-then-eq
overflow_add-q-then-eq c = omega (arith, c.width.ensures, c.width-then-eq.ensures, c.requires.0, width_few _ (fair_first _ c.requires.1 c.first-k.ensures), width_few _ (fair_second _ c.requires.1 c.second-l.ensures))

pub returns-then-eq : goal.returns-then-eq
returns-then-eq c = and_then _ _ (operands_on c.args.s c.args.text.now c.args.p c.requires.1 c.first-k.ensures c.second-l.ensures c.width.ensures c.width-then-eq.ensures c.peek.ensures c.operand.ensures c.ne.ensures c.if-ne.false c.operand-2.ensures c.eq.ensures) c.if-eq.true

pub returns-else-eq : goal.returns-else-eq
returns-else-eq c = and_else _ _ (operands_on c.args.s c.args.text.now c.args.p c.requires.1 c.first-k.ensures c.second-l.ensures c.width.ensures refl refl c.operand.ensures c.ne.ensures c.if-ne.false c.operand-2.ensures c.eq.ensures) c.if-eq.false
