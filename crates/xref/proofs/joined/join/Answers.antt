-- `xref::joined::join`: the invariant is the walk of both chains.
use Rattle.xref.specs.Chain.{Held}
use mathlib.Core.List.{List}
use native.Mathlib.Omega.{arith}
use Rattle.lent.specs.Lent.{at}
use Rattle.tables.proofs.Built.{built_held, fresh_cell, fresh_link}
use Rattle.tables.specs.Tables.{first_of}
use Rattle.xref.proofs.Join.{joining_end, joining_on, joining_room, joining_start}
use Rattle.tables.specs.Key.{key_of}
use Rattle.wire.proofs.Laws.{length_words}
use Rattle.writers.proofs.Cell.{past_registers}
use Rattle.wire.specs.Words.{words_of}
use Prim.Native.Nat.{ℕ, ◌+◌, ◌<◌}
use mathlib.Core.Path.{◌∙◌, ◌≡◌}
use Rattle.xref.proofs.joined.join.Goals as goal

head_of : (body t : List ℕ) → Held body t → (k : ℕ) → k < 1024 → at t k ≡ first_of (words_of body 4096) k 0
head_of body t e k h = built_held (words_of body 4096) t e.room e.fresh k (omega arith) ∙ fresh_cell (words_of body 4096) k h

link_of : (body t : List ℕ) → Held body t → (a : ℕ) → a < 4096 → at t (1024 + a) ≡ first_of (words_of body 4096) (key_of (at (words_of body 4096) a)) (a + 1)
link_of body t e a h = built_held (words_of body 4096) t e.room e.fresh (1024 + a) (omega arith) ∙ fresh_link (words_of body 4096) a

pub offset_bounds-tables-cell : goal.offset_bounds-tables-cell
offset_bounds-tables-cell c = let b = past_registers _ c.requires.1 in omega arith

pub bounds-tables-cell : goal.bounds-tables-cell
bounds-tables-cell c =
    let b = past_registers _ c.requires.1 in
    omega (arith, c.requires.0.room)

pub bounds-tables-15 : goal.bounds-tables-15
bounds-tables-15 c = omega (arith, c.requires.0.room)

pub loop-a-init : goal.loop-a-init
loop-a-init c =
    let b = past_registers _ c.requires.1 in
    joining_start (words_of c.args.program.now 4096) (length_words c.args.program.now 4096) c.args.cell _ _ c.least-a.result c.args.found.now
    (head_of _ _ c.requires.0 c.args.cell (omega arith)) (head_of _ _ c.requires.0 0x0F (omega arith)) c.least-a.ensures c.requires.2

pub offset_bounds-found-n : goal.offset_bounds-found-n
offset_bounds-found-n c =
    omega (
      arith,
      (let l = c.loop-a in
          joining_room (words_of c.args.program.now 4096) (length_words c.args.program.now 4096) c.args.cell l.own l.pointed l.a l.n l.found _ l.invariant
          c.loop-a-test.true),
      c.loop-a.invariant.size,
    )

pub bounds-found-n : goal.bounds-found-n
bounds-found-n c =
    let l = c.loop-a in
    joining_room (words_of c.args.program.now 4096) (length_words c.args.program.now 4096) c.args.cell l.own l.pointed l.a l.n l.found _ l.invariant
    c.loop-a-test.true

pub overflow_add-n : goal.overflow_add-n
overflow_add-n c =
    omega (
      arith,
      (let l = c.loop-a in
          joining_room (words_of c.args.program.now 4096) (length_words c.args.program.now 4096) c.args.cell l.own l.pointed l.a l.n l.found _ l.invariant
          c.loop-a-test.true),
      c.loop-a.invariant.size,
    )

pub bounds-tables-a : goal.bounds-tables-a
bounds-tables-a c = omega (arith, c.requires.0.room)

pub loop-a-smaller : goal.loop-a-smaller
loop-a-smaller c =
    omega (
      arith,
      ((let l = c.loop-a in
          joining_on (words_of c.args.program.now 4096) (length_words c.args.program.now 4096) c.args.cell l.own l.pointed l.a l.n l.found
          c.args.found.now l.invariant c.loop-a-test.true _ _ _ _
          (link_of c.args.program.now c.args.tables.now c.requires.0 l.a c.loop-a-test.true)
          c.after-own.ensures c.after-pointed.ensures c.least-a-in-loop-a.ensures)).0,
    )

pub loop-a-preserved : goal.loop-a-preserved
loop-a-preserved c =
    ((let l = c.loop-a in
    joining_on (words_of c.args.program.now 4096) (length_words c.args.program.now 4096) c.args.cell l.own l.pointed l.a l.n l.found
    c.args.found.now l.invariant c.loop-a-test.true _ _ _ _
    (link_of c.args.program.now c.args.tables.now c.requires.0 l.a c.loop-a-test.true)
    c.after-own.ensures c.after-pointed.ensures c.least-a-in-loop-a.ensures)).1

pub returns : goal.returns
returns c =
    let l = c.loop-a in
    joining_end (words_of c.args.program.now 4096) (length_words c.args.program.now 4096) c.args.cell l.own l.pointed l.a l.n l.found _ l.invariant
    c.loop-a-test.false
