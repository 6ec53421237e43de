-- `text::put_letters`: what is laid and what is still to be laid is the whole.
use Rattle.text.specs.Text.{laid_of}
use lib.ListN.{drop}
use Prim.Native.Nat.{◌+◌}
use mathlib.Core.Path.{◌≡◌}
use Rattle.text.proofs.put_letters.Given as goal

abbrev pub invariant-loop-k : goal.invariant-loop-k
invariant-loop-k l = laid_of l.room (l.p + l.k) (drop l.k l.name) ≡ laid_of l.initial.room l.p l.name
