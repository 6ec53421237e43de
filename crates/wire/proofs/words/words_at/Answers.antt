-- `wire::words::words_at`: one word stored, then the other.
use mathlib.Core.List.{List}
use mathlib.Core.Path.{ap, ◌∙◌}
use Rattle.lent.specs.Lent.{at}
use lib.ListN.{set}
use Rattle.wire.specs.Words.{words_at_of, words_of}
use Prim.Native.Nat.{ℕ}
use Rattle.wire.proofs.words.words_at.Goals as goal

pub returns : goal.returns
unfolding words_at_of
returns c =
    c.put_word-2.ensures
    ∙ ap (λ (w : List ℕ). set w c.args.b (at (words_of c.args.body.now 4096) c.args.b)) c.put_word.ensures
