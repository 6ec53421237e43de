-- `line::operand`: the same tests in the same order.
use mathlib.Core.Path.{◌∙◌}
use Rattle.line.proofs.Laws.{read_missing, read_none, read_number, read_over, read_unspaced}
use Rattle.line.proofs.operand.Goals as goal

pub returns-in-None : goal.returns-in-None
returns-in-None c = read_none c.args.text.now c.args.p c.in-None.is

pub returns-then-c-ne-SPACE : goal.returns-then-c-ne-SPACE
returns-then-c-ne-SPACE c = read_unspaced c.args.text.now c.args.p c.in-Some.k c.in-Some.is c.peek-c.ensures c.if-c-ne-SPACE.true

pub returns-in_err-n-in-Some : goal.returns-in_err-n-in-Some
returns-in_err-n-in-Some c = c.from_residual.ensures ∙ read_missing c.args.text.now c.args.p c.in-Some.k c.in-Some.is c.peek-c.ensures c.if-c-ne-SPACE.false c.number.ensures c.in_err-n-in-Some.was

pub returns-then-n-k : goal.returns-then-n-k
returns-then-n-k c = read_number c.args.text.now c.args.p c.in-Some.k c.in-Some.is c.peek-c.ensures c.if-c-ne-SPACE.false c.number.ensures c.in_ok-n-in-Some.n c.in_ok-n-in-Some.was c.if-n-k.true

pub returns-else-n-k : goal.returns-else-n-k
returns-else-n-k c = read_over c.args.text.now c.args.p c.in-Some.k c.in-Some.is c.peek-c.ensures c.if-c-ne-SPACE.false c.number.ensures c.in_ok-n-in-Some.n c.in_ok-n-in-Some.was c.if-n-k.false
