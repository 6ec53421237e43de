-- `line::put_operand`: nothing, or a space and the digits.
use Rattle.line.proofs.Laws.{operand_laid, operand_none}
use Rattle.line.proofs.put_operand.Goals as goal

pub returns-in-None : goal.returns-in-None
returns-in-None c = operand_none _ _ _ c.in-None.is

pub returns-in-Some : goal.returns-in-Some
returns-in-Some c = operand_laid _ _ _ c.in-Some.k _ c.in-Some.is c.poke.ensures c.put_number.ensures
