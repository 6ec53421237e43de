-- `tables::fresh::write`: the invariant is the pass, with its slots and links.
use Rattle.tables.proofs.Passed.{Linked, Slotted, link_here, links_stored, slots_next, slots_start, written}
use native.Mathlib.Omega.{arith}
use lib.Seq.{get_or-set_other}
use lib.ListN.{length-set}
use Rattle.wire.proofs.Laws.{length_words}
use Rattle.tables.proofs.Slots.{place_within, slot_within}
use mathlib.Core.Path.{refl, subst, ◌∙◌, ◌≡◌}
use borrow.Author.Rules.{rules}
use Rattle.wire.specs.Words.{words_of}
use Prim.Native.Nat.{◌+◌, ◌-◌}
use Rattle.tables.proofs.fresh.write.Goals as goal

pub loop-a-init : goal.loop-a-init
loop-a-init c = (refl, slots_start _ (length_words _ 4096), λ b h k. absurd (omega arith), λ i h. refl)

pub slot-x-requires : goal.slot-x-requires
slot-x-requires c = (c.requires.0, omega arith, c.bases-bases.ensures)

pub offset_bounds-heads-x : goal.offset_bounds-heads-x
offset_bounds-heads-x c = omega (arith, slot_within _ c.slot-x.ensures)

pub bounds-heads-x : goal.bounds-heads-x
bounds-heads-x c = omega (arith, slot_within _ c.slot-x.ensures)

pub offset_bounds-places-x : goal.offset_bounds-places-x
offset_bounds-places-x c = omega (arith, slot_within _ c.slot-x.ensures)

pub bounds-places-x : goal.bounds-places-x
bounds-places-x c = omega (arith, slot_within _ c.slot-x.ensures)

pub overflow_cast-heads-in-loop-a : goal.overflow_cast-heads-in-loop-a
overflow_cast-heads-in-loop-a c = omega (arith, (let q = c.places-places in place_within _ c.slot-x.ensures q.result q.ensures))

pub offset_bounds-heads-places : goal.offset_bounds-heads-places
offset_bounds-heads-places c = omega (arith, (let q = c.places-places in place_within _ c.slot-x.ensures q.result q.ensures))

pub bounds-heads-places : goal.bounds-heads-places
bounds-heads-places c = omega (arith, (let q = c.places-places in place_within _ c.slot-x.ensures q.result q.ensures))

pub loop-a-preserved : goal.loop-a-preserved
loop-a-preserved c =
    let l = c.loop-a in
    let q = c.places-places in
    let p = words_of c.args.program.now 4096 in
    let n = length_words c.args.program.now 4096 in
    let a = l.a - 1 in
    let z : l.a ≡ a + 1 = omega arith in
    let h : Slotted p l.heads (a + 1) = subst (Slotted p l.heads) z l.invariant.1 in
    let k : Linked p l.tables (a + 1) = subst (Linked p l.tables) z l.invariant.2 in
    let v = link_here p n a (omega arith) l.heads h c.slot-x.result c.slot-x.ensures in (
      length-set l.tables (1024 + a) _ ∙ l.invariant.0,
      slots_next p n a (omega arith) l.heads h c.slot-x.result c.slot-x.ensures q.result q.ensures,
      links_stored p n l.tables a _ (omega arith) (omega (arith, c.requires.1, l.invariant.0)) k v,
      λ i j. get_or-set_other l.tables (1024 + a) i _ 0 (λ q. absurd (omega arith)) ∙ l.invariant.3 i j,
    )

pub slice_bounds-write_heads-end : goal.slice_bounds-write_heads-end
slice_bounds-write_heads-end c = search (rules, c.loop-a.invariant.1)

pub write_heads-requires : goal.write_heads-requires
write_heads-requires c =
    let l = c.loop-a in
    (l.invariant.1.0, omega (arith, l.invariant.0, c.requires.1))

pub returns : goal.returns
returns c =
    let l = c.loop-a in
    let p = words_of c.args.program.now 4096 in
    let z : l.a ≡ 0 = omega arith in
    written p (length_words c.args.program.now 4096) l.tables l.heads (subst (Slotted p l.heads) z l.invariant.1)
    (subst (Linked p l.tables) z l.invariant.2) c.args.tables.now _ l.invariant.0 l.invariant.3 c.write_heads.ensures
