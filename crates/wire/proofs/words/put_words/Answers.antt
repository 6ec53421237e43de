-- `wire::words::put_words`: the invariant is that the first i numbers are pasted at the front.
use mathlib.Core.Path.{ap, refl, ◌∙◌, ◌≡◌}
use native.Mathlib.Omega.{arith}
use lib.ListN.{length}
use Rattle.wire.proofs.Laws.{length_pair_set, pairs_on, pairs_past, pairs_start}
use Rattle.wire.specs.Words.{pairs_of}
use Rattle.lent.specs.Lent.{pasted_of}
use Prim.Native.Nat.{ℕ}
use Rattle.wire.proofs.words.put_words.Goals as goal

pub returns-then-out-n : goal.returns-then-out-n
returns-then-out-n c = pairs_past _ _ _ (omega arith)

pub loop-i-init : goal.loop-i-init
loop-i-init c = (omega arith, (refl, pairs_start _ _))

pub loop-i-preserved : goal.loop-i-preserved
loop-i-preserved c =
    let l = c.loop-i in
    let a = c.args in
    let p = c.pair_set.ensures in
    let f = c.peek.ensures in
    (l.invariant.0, (ap length p ∙ (length_pair_set _ _ _ ∙ l.invariant.1.0), p ∙ pairs_on a.ws.now a.out.now l.i _ _ l.invariant.1.0 l.invariant.1.1 f (omega arith)))

pub returns : goal.returns
returns c =
    let l = c.loop-i in
    let a = c.args in
    let e : l.i ≡ a.n = omega arith in
    l.invariant.1.1 ∙ ap (λ (k : ℕ). pasted_of a.out.now 0 (pairs_of a.ws.now k)) e
