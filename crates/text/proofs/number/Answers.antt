-- `text::number`: what the digits so far say.
use native.Mathlib.Omega.{arith}
use mathlib.Core.Path.{ap, refl, sym, ◌∙◌}
use lib.ListN.{drop}
use Rattle.text.specs.Text.{number_in, value_of}
use Rattle.text.proofs.Laws.{digit_fits, number_end, number_fits, number_off, number_on}
use Rattle.text.proofs.number.Goals as goal

pub loop-k-init : goal.loop-k-init
unfolding number_in
loop-k-init c = refl

pub overflow_mul-n : goal.overflow_mul-n
overflow_mul-n c =
    let l = c.loop-k in
    omega (arith, number_fits l.k (drop c.args.p c.args.text.now) l.n (omega arith) l.invariant)

pub overflow_add-n : goal.overflow_add-n
overflow_add-n c =
    let l = c.loop-k in
    omega (arith, number_fits l.k (drop c.args.p c.args.text.now) l.n (omega arith) l.invariant, digit_fits c.peek.result c.in_ok-n.field-0 (sym c.in_ok-n.ensures))

pub returns-in_err-n : goal.returns-in_err-n
returns-in_err-n c =
    c.from_residual.ensures ∙ number_off c.args.text.now c.args.p c.loop-k.k c.args.digits (omega arith) (ap value_of (sym c.peek.ensures) ∙ sym c.in_err-n.ensures)

pub loop-k-preserved : goal.loop-k-preserved
loop-k-preserved c = number_on _ _ _ c.loop-k.invariant (ap value_of (sym c.peek.ensures) ∙ sym c.in_ok-n.ensures)

pub returns : goal.returns
returns c = number_end _ _ (omega arith) c.loop-k.invariant
