-- `call_two::script::fine`: one part more is found.
use native.Mathlib.Omega.{arith}
use Rattle.std.proofs.lemmas.List.{length-take, length-drop}
use Rattle.lent.specs.Lent.{both}
use Rattle.call_two.specs.Script.{fine_of}
use Rattle.call_two.proofs.Scripts.{part_fine}
use lib.ListN.{length, take, drop}
use Prim.Native.Nat.{ℕ, ◌+◌, ◌-◌, ◌*◌, ◌%◌}
use mathlib.Core.Path.{◌≡◌, refl, ap, ◌∙◌}
use Rattle.call_two.proofs.script.fine.Goals as goal

pub loop-k-preserved : goal.loop-k-preserved
loop-k-preserved c =
    let l = c.args.script.now in
    let i = c.loop-k.k * 64 in
    let e : (c.loop-k.k + 1) * 64 ≡ i + (i + 64 - i) = omega arith in
    let h : length (take (i + 64 - i) (drop i l)) % 2 ≡ 0 =
    simp (length-take, length-drop) (omega (arith, c.loop-k-test.true)) in
    ap (λ (n : ℕ). both c.both-ok.result (fine_of (drop n l))) e
    ∙ (part_fine l i (i + 64 - i) c.loop-k.ok h refl c.many_fine.ensures c.both-ok.ensures ∙ c.loop-k.invariant)
