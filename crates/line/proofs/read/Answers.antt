-- `line::read`: the word's line, where there is a word.
use mathlib.Core.Path.{sym, ◌∙◌}
use Rattle.line.proofs.Laws.{good_word, no_word, word_read}
use Rattle.line.proofs.read.Goals as goal

pub returns-in_err-w : goal.returns-in_err-w
returns-in_err-w c = c.from_residual.ensures ∙ no_word c.args.a _ (sym c.in_err-w.was ∙ word_read c.args.text.now c.args.p c.number.ensures)

pub is_line-requires : goal.is_line-requires
is_line-requires c = (c.requires.0, (c.requires.1, sym c.in_ok-w.was ∙ word_read c.args.text.now c.args.p c.number.ensures))

pub returns : goal.returns
returns c = c.then_some.ensures ∙ good_word c.args.a _ (sym c.in_ok-w.was ∙ word_read c.args.text.now c.args.p c.number.ensures) c.is_line.ensures
