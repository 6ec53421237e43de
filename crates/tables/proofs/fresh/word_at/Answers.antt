-- `tables::fresh::word_at`: two bytes, high byte first.
use mathlib.Core.List.{List}
use Rattle.lent.specs.Lent.{at, pair_at_of}
use mathlib.Core.Path.{sym, ◌≡◌}
use Rattle.wire.proofs.Laws.{words_at}
use Rattle.wire.specs.Words.{words_of}
use Prim.Native.Nat.{ℕ, ◌*◌, ◌+◌, ◌<◌}
use Rattle.tables.proofs.fresh.word_at.Goals as goal

two_bytes : (b : List ℕ) (a h l : ℕ) → h ≡ at b (a * 2) → l ≡ at b (a * 2 + 1) → a < 4096 → 256 * h + l ≡ at (words_of b 4096) a
unfolding pair_at_of
two_bytes b a h l e f k = rw (e, f) (sym (words_at b 4096 a k))

pub returns : goal.returns
returns c = search two_bytes
