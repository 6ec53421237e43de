-- `tables::keys::key`: the cell is asked for where the word can change it.
use mathlib.Core.Path.{ap, refl, ◌∙◌}
use Rattle.tables.specs.Key.{kept_of, key_of}
use Rattle.tables.proofs.Choices.{pick_off, pick_on}
use Rattle.tables.proofs.keys.key.Goals as goal

pub returns-then-changes : goal.returns-then-changes
unfolding key_of
returns-then-changes c = pick_on _ c.changes.ensures c.if-changes.true (c.kept.ensures ∙ ap kept_of c.named.ensures)

pub returns : goal.returns
unfolding key_of
returns c = pick_off _ c.changes.ensures c.if-changes.false refl
