-- `lent::paste`: the invariant is that the first k bytes are copied.
use mathlib.Core.List.{List}
use native.Mathlib.Numerals.{add-one}
use native.Mathlib.Omega.{arith}
use lib.ListN.{get_or, length, length-set, set}
use lib.Seq.{paste, paste-suc}
use mathlib.Core.Path.{◌∙◌, ◌≡◌}
use Prim.Native.Nat.{ℕ, ◌+◌, ◌≤◌}
use Rattle.lent.proofs.paste.Goals as goal

copied : (d : List ℕ) (i : ℕ) (s b : List ℕ) (k : ℕ) → b ≡ paste d i s k → i + length s ≤ length d → k + 1 ≤ length s → set b (i + k) (get_or s k 0) ≡ paste d i s (k + 1)
copied d i s b k e h l = rw (e, add-one k) (paste-suc d i s k 0 (omega arith) (omega arith))

pub loop-k-preserved : goal.loop-k-preserved
loop-k-preserved c =
    let l = c.loop-k in
    let a = c.args in
    (length-set l.bytes (a.i + l.k) _ ∙ l.invariant.0, copied a.bytes.now a.i a.from.now l.bytes l.k l.invariant.1 (omega arith) (omega arith))
