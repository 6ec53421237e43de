-- `tables::fresh::slot`: the base of the upper bits, and the lower ones.
use mathlib.Core.List.{List}
use Rattle.tables.specs.Pass.{Ruled, base_of, slot_of}
use native.Mathlib.Omega.{arith}
use Rattle.lent.specs.Lent.{at}
use Rattle.tables.proofs.Slots.{base_small}
use Prim.Native.Nat.{ℕ, ◌%◌, ◌+◌, ◌/◌, ◌<◌}
use mathlib.Core.Path.{◌≡◌}
use Rattle.tables.proofs.fresh.slot.Goals as goal

base_at : (l : List ℕ) (w : ℕ) → Ruled base_of 512 l → w < 65536 → at l (w / 128) ≡ base_of (w / 128)
base_at l w r h = r.1 (w / 128) (omega arith)

slot_at : (l : List ℕ) (w v : ℕ) → Ruled base_of 512 l → w < 65536 → w ≡ v → at l (w / 128) + w % 128 ≡ slot_of v
unfolding slot_of
slot_at l w v r h e = rw (← e, base_at l w r h)

pub overflow_cast-result-3 : goal.overflow_cast-result-3
overflow_cast-result-3 c = let w = c.word_at-word.result in omega (arith, (base_at c.args.bases.now c.word_at-word.result c.requires.2 (omega arith)), base_small (w / 128))

pub overflow_add-result : goal.overflow_add-result
overflow_add-result c = let w = c.word_at-word.result in omega (arith, (base_at c.args.bases.now c.word_at-word.result c.requires.2 (omega arith)), base_small (w / 128))

pub returns : goal.returns
returns c =
    let w = c.word_at-word in
    slot_at c.args.bases.now w.result _ c.requires.2 (omega arith) w.ensures
