-- `call_run::all_known`: one part more is found.
use native.Mathlib.Omega.{arith}
use Rattle.lent.specs.Lent.{both}
use Rattle.call_run.specs.Run.{all_known_of}
use Rattle.call_run.proofs.Laws.{part_known}
use lib.ListN.{drop}
use Prim.Native.Nat.{ℕ, ◌+◌, ◌-◌, ◌*◌}
use mathlib.Core.Path.{◌≡◌, refl, ap, ◌∙◌}
use Rattle.call_run.proofs.all_known.Goals as goal

pub loop-k-preserved : goal.loop-k-preserved
loop-k-preserved c =
    let l = c.args.script.now in
    let i = c.loop-k.k * 64 in
    let e : (c.loop-k.k + 1) * 64 ≡ i + (i + 64 - i) = omega arith in
    ap (λ (n : ℕ). both c.both-ok.result (all_known_of (drop n l))) e
    ∙ (part_known l i (i + 64 - i) c.loop-k.ok refl c.part_known.ensures c.both-ok.ensures ∙ c.loop-k.invariant)
