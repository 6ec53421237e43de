-- `wire::words::put_word`: the word as the program's words have it; past them nothing stands.
use mathlib.Core.Path.{ap, sym, ◌∙◌}
use native.Mathlib.Omega.{arith}
use lib.ListN.{set}
use Rattle.lent.proofs.Laws.{set_past}
use Rattle.wire.proofs.Laws.{words_at}
use Prim.Native.Nat.{ℕ}
use Rattle.wire.proofs.words.put_word.Goals as goal

pub returns-then-k-w : goal.returns-then-k-w
returns-then-k-w c = ap (λ (v : ℕ). set c.args.w.now c.args.a v) (c.pair_at.ensures ∙ sym (words_at _ 4096 _ (omega (arith, c.if-k-w.true, c.requires))))

pub returns-else-k-w : goal.returns-else-k-w
returns-else-k-w c = set_past _ _ _ c.if-k-w.false
