-- `text::put_letters`: what is laid and what is still to be laid is the whole.
use mathlib.Core.Path.{◌∙◌}
use native.Mathlib.Omega.{arith}
use Prim.Native.Nat.{◌+◌}
use Rattle.text.proofs.Laws.{letter_on, letters_end}
use Rattle.text.proofs.put_letters.Goals as goal

pub loop-k-preserved : goal.loop-k-preserved
loop-k-preserved c =
    let l = c.loop-k in
    letter_on l.room c.args.p l.k c.args.name.now (omega arith) c.poke.ensures ∙ l.invariant

pub returns : goal.returns
returns c =
    let l = c.loop-k in
    letters_end l.room (c.args.p + l.k) l.k c.args.name.now (omega arith) ∙ l.invariant
