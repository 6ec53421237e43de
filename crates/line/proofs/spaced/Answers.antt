-- `line::spaced`: the number, and the space.
use mathlib.Core.Path.{refl}
use Rattle.line.proofs.Laws.{and_else, and_then, spaced_read}
use Rattle.line.proofs.spaced.Goals as goal

pub returns-then-eq : goal.returns-then-eq
returns-then-eq c = and_then _ _ (spaced_read c.args.text.now c.args.p c.args.digits c.args.v c.requires.1.1 c.number.ensures c.eq.ensures c.peek.ensures) c.if-eq.true

pub returns-else-eq : goal.returns-else-eq
returns-else-eq c = and_else _ _ (spaced_read c.args.text.now c.args.p c.args.digits c.args.v c.requires.1.1 c.number.ensures c.eq.ensures refl) c.if-eq.false
