-- `xref::chain::before`: the invariant is that the place belongs to the cell and begins at the address or before it.
use Rattle.xref.specs.Chain.{Held}
use mathlib.Core.List.{List}
use native.Mathlib.Omega.{arith}
use Rattle.lent.specs.Lent.{at}
use Rattle.tables.proofs.Built.{built_held}
use Rattle.tables.specs.Tables.{cell_at, fresh_at, from_at}
use Rattle.xref.proofs.Places.{cell_cell, fresh_told, from_cell, place_next}
use Rattle.wire.proofs.Laws.{length_words}
use Rattle.wire.specs.Words.{words_of}
use Prim.Native.Nat.{ℕ, ◌+◌, ◌<◌, ◌≤◌}
use mathlib.Core.Path.{◌∙◌, ◌≡◌}
use Rattle.xref.proofs.chain.before.Goals as goal

held_at : (b t : List ℕ) (i : ℕ) → Held b t → i < 5120 → at t i ≡ fresh_at (words_of b 4096) i
held_at b t i h k = built_held (words_of b 4096) t h.room h.fresh i k

held_most : (b t : List ℕ) (i : ℕ) → Held b t → i < 5120 → at t i ≤ 4096
held_most b t i h k = omega (arith, held_at b t i h k, (fresh_told (words_of b 4096) (length_words b 4096) i k).most)

held_next : (b t : List ℕ) (i a : ℕ) → Held b t → i < 5120 → a < 4096 → at t i < a → (cell_at (words_of b 4096) (1024 + at t i) ≡ cell_at (words_of b 4096) i) × (from_at (1024 + at t i) ≡ at t i + 1) × (from_at i ≤ at t i)
held_next b t i a h k l j = let e = held_at b t i h k in rw e (place_next (words_of b 4096) (length_words b 4096) i k (omega arith))

pub loop-i-init : goal.loop-i-init
loop-i-init c =
    let a = c.args in
    let h = c.requires.1 in
    (omega arith, cell_cell _ a.cell h, omega (arith, from_cell a.cell h))

pub bounds-tables-i : goal.bounds-tables-i
bounds-tables-i c = omega (arith, c.requires.0.room)

pub overflow_cast-tables : goal.overflow_cast-tables
overflow_cast-tables c = omega (arith, held_most _ _ c.loop-i.i c.requires.0 c.loop-i.invariant.0)

pub bounds-tables-i-in-loop-i : goal.bounds-tables-i-in-loop-i
bounds-tables-i-in-loop-i c = omega (arith, c.requires.0.room)

pub loop-i-smaller : goal.loop-i-smaller
loop-i-smaller c =
    let l = c.loop-i in
    let r = held_next _ _ l.i c.args.address c.requires.0 l.invariant.0 c.requires.2 c.loop-i-test.true in
    omega (arith, r.1, r.2, l.invariant.2)

pub loop-i-preserved : goal.loop-i-preserved
loop-i-preserved c =
    let l = c.loop-i in
    let r = held_next _ _ l.i c.args.address c.requires.0 l.invariant.0 c.requires.2 c.loop-i-test.true in
    (omega arith, r.0 ∙ l.invariant.1, omega (arith, r.1))

pub returns : goal.returns
returns c =
    let l = c.loop-i in
    record {
      place = l.invariant.0;
      cell = l.invariant.1;
      from = l.invariant.2;
      past = omega (arith, c.loop-i-test.false, held_at _ _ l.i c.requires.0 l.invariant.0);
    }
