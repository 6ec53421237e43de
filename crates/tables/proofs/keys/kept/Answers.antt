-- `tables::keys::kept`: the same test.
use Rattle.tables.specs.Key.{kept_of}
use Rattle.tables.proofs.Choices.{pick_off, pick_on}
use mathlib.Core.Path.{refl}
use Rattle.tables.proofs.keys.kept.Goals as goal

pub returns-then-keeps : goal.returns-then-keeps
unfolding kept_of
returns-then-keeps c = pick_on _ c.keeps.ensures c.if-keeps.true refl

pub returns : goal.returns
unfolding kept_of
returns c = pick_off _ c.keeps.ensures c.if-keeps.false refl
