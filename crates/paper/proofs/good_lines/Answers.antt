-- `paper::good_lines`: the good lines so far and those that follow are the whole.
use mathlib.Core.List.{List}
use mathlib.Core.Path.{ap, sym, ◌∙◌}
use native.Mathlib.Omega.{arith}
use lib.ListN.{drop, length}
use Rattle.std.proofs.lemmas.List.{set-get_or}
use Rattle.paper.proofs.Laws.{ended, good_end, good_off, good_on, laid_first, lines_on}
use Rattle.paper.specs.Listing.{good_from, lines_of}
use Rattle.text.specs.Text.{laid_of}
use Prim.Native.Nat.{ℕ, ◌+◌, ◌-◌}
use Rattle.paper.proofs.good_lines.Goals as goal

pub returns-in_default : goal.returns-in_default
returns-in_default c =
    let l = c.loop-a in
    let i = c.in_default.is in
    let e = c.in_default.ensures in
    let g = good_off c.args.text.now l.a l.p (omega (arith, c.requires)) (sym c.in_default.ensures) in
    let r = ended l.a l.p l.words g l.invariant.1 l.invariant.2 l.invariant.3 in
    (r.0, set-get_or l.words l.a 0 ∙ r.1)

pub loop-a-preserved : goal.loop-a-preserved
loop-a-preserved c =
    let l = c.loop-a in
    let m = c.length-p.result in
    let w = c.in-Some.w in
    let g = good_on c.args.text.now l.a l.p (omega (arith, c.requires)) w m (sym c.in-Some.ensures) c.length-p.ensures.0 in
    let r = good_from (4096 - (l.a + 1)) (l.a + 1) (drop (l.p + m) c.args.text.now) in (
      omega (arith, l.invariant.0, c.length-p.ensures.1),
      omega (arith, l.invariant.1, ap length g),
      omega (arith, l.invariant.2, ap (λ (q : List ℕ). length (lines_of l.a q)) g, lines_on l.a w r, c.length-p.ensures.0),
      laid_first l.words l.a w r ∙ (ap (laid_of l.words l.a) (sym g) ∙ l.invariant.3),
    )

pub returns : goal.returns
returns c =
    let l = c.loop-a in
    let g = good_end l.a (drop l.p c.args.text.now) (omega (arith, c.requires)) in
    let r = ended l.a l.p l.words g l.invariant.1 l.invariant.2 l.invariant.3 in
    ((omega (arith, r.0.0, c.requires), r.0.1), r.1)
