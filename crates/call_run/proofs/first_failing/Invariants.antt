-- `call_run::first_failing`: the search from i on finds what the search of the whole finds.
use Rattle.lent.specs.Lent.{fails_from}
use lib.ListN.{drop}
use mathlib.Core.Bool.{Bool}
use Prim.Native.Nat.{ℕ}
use mathlib.Core.Path.{◌≡◌}
use Rattle.call_run.proofs.first_failing.Given as goal

abbrev pub invariant-loop-i : goal.invariant-loop-i
invariant-loop-i g l =
    (test : ℕ → ℕ → Bool) → ((i e : ℕ) (b : Bool) → goal.F-post g l.passes i e b → b ≡ test i e) → fails_from test (drop l.i l.bytes) l.i ≡ fails_from test l.bytes 0
