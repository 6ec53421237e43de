-- `tables::pass::base`: the list's test of the word with these bits.
use mathlib.Core.Path.{ap, refl}
use native.Mathlib.Omega.{arith}
use Rattle.tables.specs.Pass.{base_of}
use Rattle.tables.proofs.KeyLaws.{named_small}
use Rattle.tables.proofs.Choices.{pick_off, pick_on}
use Prim.Native.Nat.{ℕ, ◌*◌, ◌+◌}
use Rattle.tables.proofs.pass.base.Goals as goal

pub overflow_add-result : goal.overflow_add-result
overflow_add-result c = omega (arith, c.named.ensures, named_small (c.args.i * 128))

pub returns-then-changes : goal.returns-then-changes
unfolding base_of
returns-then-changes c = pick_on _ c.changes.ensures c.if-changes.true (ap (λ (x : ℕ). x + 128) c.named.ensures)

pub returns : goal.returns
unfolding base_of
returns c = pick_off _ c.changes.ensures c.if-changes.false refl
