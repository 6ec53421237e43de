-- `sh_run::stretch::going`: a word that does not go, and one that does.
use borrow.Author.Tests.{not-true, not-false}
use native.Mathlib.Omega.{arith}
use Rattle.sh_run.proofs.Stretches.{by_word, going_on, going_stays}
use mathlib.Core.Path.{sym, ◌∙◌}
use mathlib.Core.Bool.{true, false}
use Rattle.sh_run.proofs.stretch.going.Goals as goal

pub returns-then-not-r : goal.returns-then-not-r
returns-then-not-r c =
    let s = c.requires in
    let u = by_word c.loop-i.c c.loop-i.memory c.quick-r.ensures c.peek-w.ensures in
    going_stays s.4 s.6 (omega (arith, s.7, s.2)) c.loop-i.invariant c.loop-i-test.true c.if-script-i-ne0.false u (not-true _ c.if-not-r.true)

pub returns-then-at : goal.returns-then-at
returns-then-at c =
    let s = c.requires in
    let u = by_word c.loop-i.c c.loop-i.memory c.quick-r.ensures c.peek-w.ensures in
    going_on s.4 s.6 (omega (arith, s.7, s.2)) c.loop-i.invariant c.loop-i-test.true c.if-script-i-ne0.false u s.1 (not-false _ c.if-not-r.false) true (sym c.if-at.true ∙ c.at.ensures)

pub loop-i-preserved : goal.loop-i-preserved
loop-i-preserved c =
    let s = c.requires in
    let u = by_word c.loop-i.c c.loop-i.memory c.quick-r.ensures c.peek-w.ensures in
    going_on s.4 s.6 (omega (arith, s.7, s.2)) c.loop-i.invariant c.loop-i-test.true c.if-script-i-ne0.false u s.1 (not-false _ c.if-not-r.false) false (sym c.if-at.false ∙ c.at.ensures)
