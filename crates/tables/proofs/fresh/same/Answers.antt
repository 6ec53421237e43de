-- `tables::fresh::same`: the invariant is the pass, with its slots; the links that have been passed are as they must be.
use Rattle.tables.proofs.Passed.{Linked, Slotted, built_same, link_here, links_next, same_built, slots_next, slots_start}
use native.Mathlib.Omega.{arith}
use Rattle.tables.proofs.Built.{built_held, matches_fails, matches_holds}
use Rattle.wire.proofs.Laws.{length_words}
use Rattle.tables.proofs.Slots.{place_within, slot_within}
use borrow.Author.Rules.{rules}
use mathlib.Core.Path.{subst, sym, ◌∙◌, ◌≡◌}
use Rattle.lent.proofs.Laws.{test}
use Rattle.wire.specs.Words.{words_of}
use Prim.Native.Nat.{◌+◌, ◌-◌}
use Rattle.tables.proofs.fresh.same.Goals as goal

pub loop-a-init : goal.loop-a-init
loop-a-init c = (slots_start _ (length_words _ 4096), λ b h k. absurd (omega arith))

pub slot-x-requires : goal.slot-x-requires
slot-x-requires c = (c.requires.0, omega arith, c.bases-bases.ensures)

pub offset_bounds-heads-x : goal.offset_bounds-heads-x
offset_bounds-heads-x c = omega (arith, slot_within _ c.slot-x.ensures)

pub bounds-heads-x : goal.bounds-heads-x
bounds-heads-x c = omega (arith, slot_within _ c.slot-x.ensures)

pub returns-then-tables-a : goal.returns-then-tables-a
returns-then-tables-a c =
    let l = c.loop-a in
    let p = words_of c.args.program.now 4096 in
    let n = length_words c.args.program.now 4096 in
    let a = l.a - 1 in
    let z : l.a ≡ a + 1 = omega arith in
    let h : Slotted p l.heads (a + 1) = subst (Slotted p l.heads) z l.invariant.0 in
    let v = link_here p n a (omega arith) l.heads h c.slot-x.result c.slot-x.ensures in
    matches_fails p c.args.tables.now (λ e. c.if-tables-a.true (built_held p c.args.tables.now c.requires.1 e (1024 + a) (omega arith) ∙ sym v))

pub offset_bounds-places-x : goal.offset_bounds-places-x
offset_bounds-places-x c = omega (arith, slot_within _ c.slot-x.ensures)

pub bounds-places-x : goal.bounds-places-x
bounds-places-x c = omega (arith, slot_within _ c.slot-x.ensures)

pub offset_bounds-heads-places : goal.offset_bounds-heads-places
offset_bounds-heads-places c = omega (arith, (let q = c.places-places in place_within _ c.slot-x.ensures q.result q.ensures))

pub bounds-heads-places : goal.bounds-heads-places
bounds-heads-places c = omega (arith, (let q = c.places-places in place_within _ c.slot-x.ensures q.result q.ensures))

pub loop-a-preserved : goal.loop-a-preserved
loop-a-preserved c =
    let q = c.places-places in
    let l = c.loop-a in
    let p = words_of c.args.program.now 4096 in
    let n = length_words c.args.program.now 4096 in
    let a = l.a - 1 in
    let z : l.a ≡ a + 1 = omega arith in
    let h : Slotted p l.heads (a + 1) = subst (Slotted p l.heads) z l.invariant.0 in
    let k : Linked p c.args.tables.now (a + 1) = subst (Linked p c.args.tables.now) z l.invariant.1 in
    let v = link_here p n a (omega arith) l.heads h c.slot-x.result c.slot-x.ensures in (
      slots_next p n a (omega arith) l.heads h c.slot-x.result c.slot-x.ensures q.result q.ensures,
      links_next p n c.args.tables.now a k (c.if-tables-a.false ∙ v),
    )

pub slice_bounds-same_heads-end : goal.slice_bounds-same_heads-end
slice_bounds-same_heads-end c = search (rules, c.loop-a.invariant.0)

pub same_heads-requires : goal.same_heads-requires
same_heads-requires c = (c.loop-a.invariant.0.0, c.requires.1)

pub returns : goal.returns
returns c =
    let l = c.loop-a in
    let p = words_of c.args.program.now 4096 in
    let n = length_words c.args.program.now 4096 in
    let t = c.args.tables.now in
    let z : l.a ≡ 0 = omega arith in
    let h : Slotted p l.heads 0 = subst (Slotted p l.heads) z l.invariant.0 in
    let k : Linked p t 0 = subst (Linked p t) z l.invariant.1 in
    test c.same_heads.result (λ e. e ∙ matches_holds p t c.requires.1 (same_built p n t l.heads h k (c.same_heads.ensures.0 e)))
    (λ e. e ∙ matches_fails p t (λ b. c.same_heads.ensures.1 e (built_same p n t l.heads h k c.requires.1 b)))
