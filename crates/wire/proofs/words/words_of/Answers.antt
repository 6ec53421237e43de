-- `wire::words::words_of`: the invariant is that the first i words are read.
use mathlib.Core.List.{List, [], ◌++◌, ◌∷◌}
use native.Mathlib.Numerals.{add-one}
use mathlib.Core.Path.{ap, sym, ◌∙◌, ◌≡◌}
use native.Mathlib.Omega.{arith}
use lib.ListN.{length, length-replicate, length-set, set, take}
use Rattle.lent.specs.Lent.{pair_at_of}
use lib.Seq.{take-suc-set, take_all}
use Rattle.wire.proofs.Laws.{words_more, words_zero}
use Rattle.wire.specs.Words.{words_of}
use Prim.Native.Nat.{ℕ, ◌*◌, ◌+◌, ◌<◌}
use Rattle.wire.proofs.words.words_of.Goals as goal

stored : (b w : List ℕ) (i v : ℕ) → i < length w → take i w ≡ words_of b i → v ≡ pair_at_of b (i * 2) → take (i + 1) (set w i v) ≡ words_of b (i + 1)
stored b w i v h e f =
    ap (λ (k : ℕ). take k (set w i v)) (add-one i) ∙ (take-suc-set w i v h ∙ (ap (λ (l : List ℕ). l ++ v ∷ []) e ∙ (ap (λ (x : ℕ). words_of b i ++ x ∷ []) f ∙ sym (words_more b i))))

pub loop-i-init : goal.loop-i-init
loop-i-init c = (length-replicate {A = ℕ} 4096 0, sym (words_zero _))

pub loop-i-preserved : goal.loop-i-preserved
loop-i-preserved c =
    let l = c.loop-i in
    let b = c.args.body.now in
    (length-set l.w l.i c.pair_at.result ∙ l.invariant.0, stored b l.w l.i _ (omega arith) l.invariant.1 c.pair_at.ensures)

pub returns : goal.returns
returns c =
    let l = c.loop-i in
    let e : l.i ≡ 4096 = omega arith in
    sym (take_all 4096 l.w (omega arith)) ∙ (ap (λ (k : ℕ). take k l.w) (sym e) ∙ (l.invariant.1 ∙ ap (words_of _) e))
