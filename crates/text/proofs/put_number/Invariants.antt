-- `text::put_number`: what is laid and what is still to be laid is the whole.
use Rattle.text.specs.Text.{hex_of, laid_of}
use mathlib.Core.Path.{◌≡◌}
use Rattle.text.proofs.put_number.Given as goal

abbrev pub invariant-loop-k : goal.invariant-loop-k
invariant-loop-k l = laid_of l.room l.p (hex_of l.k l.rest) ≡ laid_of l.initial.room l.p (hex_of l.digits l.v)
