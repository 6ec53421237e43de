-- `line::put_operands`: one behind the other.
use native.Mathlib.Omega.{arith}
use Rattle.line.proofs.Laws.{fair_first, fair_second, operand_near, operands_laid}
use Rattle.line.proofs.put_operands.Goals as goal

pub put_operand-q-requires : goal.put_operand-q-requires
put_operand-q-requires c = (omega (arith, c.requires.0), fair_first _ c.requires.1 c.first.ensures)

pub put_operand-e-requires : goal.put_operand-e-requires
put_operand-e-requires c = (omega (arith, c.requires.0, c.put_operand-q.ensures.0, operand_near _ c.args.s.first (fair_first _ c.requires.1 c.first.ensures)), fair_second _ c.requires.1 c.second.ensures)

pub overflow_add-result : goal.overflow_add-result
overflow_add-result c =
    omega (
      arith,
      c.requires.0,
      c.put_operand-q.ensures.0,
      c.put_operand-e.ensures.0,
      operand_near _ c.args.s.first (fair_first _ c.requires.1 c.first.ensures),
      operand_near _ c.args.s.second (fair_second _ c.requires.1 c.second.ensures),
    )

pub returns : goal.returns
returns c = operands_laid _ _ _ _ _ c.first.ensures c.put_operand-q.ensures c.second.ensures c.put_operand-e.ensures c.poke.ensures
