-- `sh_run::stretch::awake`: what going leaves, and a turn that does not go, or does.
use borrow.Author.Tests.{not-true, not-false}
use native.Mathlib.Omega.{arith}
use Rattle.sh_run.proofs.Stretches.{begun_onward, by_turn, onward_at, onward_going, onward_stays, onward_turn, turned_quiet, turned_room, turned_same}
use mathlib.Core.Path.{sym, ◌∙◌}
use mathlib.Core.Bool.{true, false}
use Rattle.sh_run.proofs.stretch.awake.Goals as goal

pub loop-m-init : goal.loop-m-init
loop-m-init c =
    let s = c.requires in
    record { so_far = begun_onward _ (omega (arith, s.2, s.3)) s.4; within = c.end-end.ensures.0; quiet = s.0; awake = s.1; room = s.2 }

pub returns-then-q : goal.returns-then-q
returns-then-q c = onward_at c.done.ensures (onward_going c.loop-m.invariant.so_far c.going-q.ensures c.end-end.ensures.1 c.if-q.true)

pub returns-then-end-n : goal.returns-then-end-n
returns-then-end-n c = onward_at c.done-then-end-n.ensures (onward_going c.loop-m.invariant.so_far c.going-q.ensures c.end-end.ensures.1 c.if-q.false)

pub returns-then-script-n-ne0 : goal.returns-then-script-n-ne0
returns-then-script-n-ne0 c = onward_at c.done-then-script-n-ne0.ensures (onward_going c.loop-m.invariant.so_far c.going-q.ensures c.end-end.ensures.1 c.if-q.false)

pub done-requires-then-not-r : goal.done-requires-then-not-r
done-requires-then-not-r c =
    let e = c.end-end.ensures in
    let v = c.loop-m.invariant in
    let g = c.going-q.ensures in
    let u = by_turn _ _ _ c.turn-t.ensures c.peek-w.ensures in
    (v.room ∙ sym (turned_room _ _ _ _ _ _ _ u _), c.requires.3, omega (arith, v.so_far.from, g.from), omega (arith, g.to, e.2))

pub returns-then-not-r : goal.returns-then-not-r
returns-then-not-r c =
    let e = c.end-end.ensures in
    let v = c.loop-m.invariant in
    let g = c.going-q.ensures in
    let u = by_turn _ _ _ c.turn-t.ensures c.peek-w.ensures in
    onward_at c.done-then-not-r.ensures
    (onward_stays _ _ _ _ (onward_going v.so_far g e.1 c.if-q.false) c.if-end-n.false e.1 (omega (arith, e.2, v.room)) c.if-script-n-ne0.false g.quiet u (not-true _ c.if-not-r.true))

pub done-requires-then-due-ne0 : goal.done-requires-then-due-ne0
done-requires-then-due-ne0 c =
    let e = c.end-end.ensures in
    let v = c.loop-m.invariant in
    let g = c.going-q.ensures in
    let u = by_turn _ _ _ c.turn-t.ensures c.peek-w.ensures in
    (v.room ∙ sym (turned_room _ _ _ _ _ _ _ u _), c.requires.3, omega (arith, v.so_far.from, g.from), omega (arith, c.if-end-n.false, e.2))

pub returns-then-due-ne0 : goal.returns-then-due-ne0
returns-then-due-ne0 c =
    let e = c.end-end.ensures in
    let v = c.loop-m.invariant in
    let g = c.going-q.ensures in
    let u = by_turn _ _ _ c.turn-t.ensures c.peek-w.ensures in
    onward_at c.done-then-due-ne0.ensures
    (onward_turn _ _ _ _ (onward_going v.so_far g e.1 c.if-q.false) c.if-end-n.false e.1 (omega (arith, e.2, v.room)) c.if-script-n-ne0.false g.quiet u v.awake (not-false _ c.if-not-r.false) _ c.at.ensures)

pub done-requires-then-at : goal.done-requires-then-at
done-requires-then-at c =
    let e = c.end-end.ensures in
    let v = c.loop-m.invariant in
    let g = c.going-q.ensures in
    let u = by_turn _ _ _ c.turn-t.ensures c.peek-w.ensures in
    (v.room ∙ sym (turned_room _ _ _ _ _ _ _ u _), c.requires.3, omega (arith, v.so_far.from, g.from), omega (arith, c.if-end-n.false, e.2))

pub returns-then-at : goal.returns-then-at
returns-then-at c =
    let e = c.end-end.ensures in
    let v = c.loop-m.invariant in
    let g = c.going-q.ensures in
    let u = by_turn _ _ _ c.turn-t.ensures c.peek-w.ensures in
    onward_at c.done-then-at.ensures
    (onward_turn _ _ _ _ (onward_going v.so_far g e.1 c.if-q.false) c.if-end-n.false e.1 (omega (arith, e.2, v.room)) c.if-script-n-ne0.false g.quiet u v.awake (not-false _ c.if-not-r.false) true (sym c.if-at.true ∙ c.at-in-loop-m.ensures))

pub loop-m-preserved : goal.loop-m-preserved
loop-m-preserved c =
    let e = c.end-end.ensures in
    let v = c.loop-m.invariant in
    let g = c.going-q.ensures in
    let u = by_turn _ _ _ c.turn-t.ensures c.peek-w.ensures in
    record {
      so_far = onward_turn _ _ _ _ (onward_going v.so_far g e.1 c.if-q.false) c.if-end-n.false e.1 (omega (arith, e.2, v.room)) c.if-script-n-ne0.false g.quiet u v.awake (not-false _ c.if-not-r.false) false (sym c.if-at.false ∙ c.at-in-loop-m.ensures);
      within = omega (arith, c.if-end-n.false);
      quiet = turned_quiet _ _ _ _ _ _ _ u _ g.quiet (sym c.due.ensures ∙ c.if-due-ne0.false);
      awake = (turned_same _ _ _ _ _ _ _ u).mode ∙ v.awake;
      room = v.room ∙ sym (turned_room _ _ _ _ _ _ _ u _);
    }
