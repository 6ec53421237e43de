-- `text::put_number`: what is laid and what is still to be laid is the whole.
use mathlib.Core.Path.{◌∙◌}
use native.Mathlib.Omega.{arith}
use Rattle.text.proofs.Laws.{put_digit, put_end}
use Rattle.text.proofs.put_number.Goals as goal

pub loop-k-preserved : goal.loop-k-preserved
loop-k-preserved c =
    let l = c.loop-k in
    put_digit l.room _ _ l.k _ l.rest (omega arith) c.poke.ensures c.digit.ensures ∙ l.invariant

pub returns : goal.returns
returns c =
    let l = c.loop-k in
    put_end l.room _ l.rest (omega arith) ∙ l.invariant
