-- `writers::fill`: the room with what is written and what is still to be written is the whole.
use mathlib.Core.Path.{ap}
use native.Mathlib.Omega.{arith}
use lib.ListN.{drop, length, length-set}
use Prim.Native.Nat.{◌+◌, ◌<◌}
use Rattle.writers.proofs.Laws.{none_here, none_left, one_here, placed_end, placed_on}
use Rattle.writers.specs.List.{writers_from}
use Rattle.writers.proofs.fill.Goals as goal
use Rattle.writers.proofs.fill.Goals.{then-writes, else-writes}

pub bounds-room-n : goal.bounds-room-n
bounds-room-n c =
    let l = c.loop-a in
    let g = ap length (one_here c.args.program.now c.args.cell l.a (omega arith) _ c.writes.ensures c.if-writes.true) in
    omega (arith, g, c.requires.1, l.invariant.room, l.invariant.counted)

pub loop-a-preserved : goal.loop-a-preserved
loop-a-preserved c =
    let l = c.loop-a in
    let p = c.args.program.now in
    let rest = writers_from (l.a + 1) (drop (l.a + 1) p) c.args.cell in
    elim c.if-writes.branch [
      | then-writes k ↦
          let g = one_here p c.args.cell l.a (omega arith) _ c.writes.ensures k.if-writes.true in
          let n = ap length g in
          let i : l.n < length l.room = omega (arith, n, c.requires.1, l.invariant.room, l.invariant.counted) in
          let s = length-set l.room l.n l.a in
          let e = placed_on l.n l.a rest l.room i in
          record { few = omega arith; room = cc; counted = omega (arith, n, l.invariant.counted); stored = cc }
      | else-writes k ↦
          let g = none_here p c.args.cell l.a (omega arith) _ c.writes.ensures k.if-writes.false in
          record { few = omega arith; room = cc; counted = omega (arith, ap length g, l.invariant.counted); stored = cc }
    ]

pub returns : goal.returns
returns c =
    let l = c.loop-a in
    let e = none_left c.args.program.now c.args.cell l.a (omega arith) in
    let f = placed_end l.n l.room in
    (omega (arith, ap length e, l.invariant.counted), cc)
