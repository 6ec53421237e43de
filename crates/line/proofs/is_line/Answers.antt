-- `line::is_line`: one behind the other.
use native.Mathlib.Omega.{arith}
use mathlib.Core.Path.{refl, ◌∙◌}
use Rattle.line.proofs.Laws.{and_else, and_then, line_off, line_on, shown_fits}
use Rattle.line.proofs.is_line.Goals as goal

pub returns-then-c-ne-SPACE : goal.returns-then-c-ne-SPACE
returns-then-c-ne-SPACE c = line_off c.args.a c.args.w c.args.text.now c.args.p c.ranges.w.fits c.requires.1.1 c.peek-c.ensures c.if-c-ne-SPACE.true

pub items-requires : goal.items-requires
items-requires c = (omega (arith, c.requires.0), shown_fits c.args.w c.ranges.w.fits c.show.ensures)

pub returns-then-spaced : goal.returns-then-spaced
returns-then-spaced c = c.items.ensures ∙ and_then _ _ (line_on c.args.a c.args.w c.args.text.now c.args.p c.ranges.w.fits c.requires.1.1 c.peek-c.ensures c.show.result c.if-c-ne-SPACE.false c.show.ensures c.spaced.ensures) c.if-spaced.true

pub returns-else-spaced : goal.returns-else-spaced
returns-else-spaced c = and_else _ _ (line_on c.args.a c.args.w c.args.text.now c.args.p c.ranges.w.fits c.requires.1.1 c.peek-c.ensures _ c.if-c-ne-SPACE.false refl c.spaced.ensures) c.if-spaced.false
