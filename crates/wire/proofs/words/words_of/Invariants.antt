-- `wire::words::words_of`: the invariant is that the first i words are read.
use lib.ListN.{length, take}
use Rattle.wire.specs.Words.{words_of}
use mathlib.Core.Path.{◌≡◌}
use Rattle.wire.proofs.words.words_of.Given as goal

abbrev pub invariant-loop-i : goal.invariant-loop-i
invariant-loop-i l = (length l.w ≡ 4096) × (take l.i l.w ≡ words_of l.body l.i)
