-- `sh_run::stretch::many`: bytes whose bits taken together are 0 are 0 each.
use native.Mathlib.Omega.{arith}
use Rattle.sh_run.proofs.Stretches.{many_by}
use Rattle.sh_run.proofs.stretch.many.Goals as goal

pub returns-then-end-i-ge-MANY : goal.returns-then-end-i-ge-MANY
returns-then-end-i-ge-MANY c = many_by _ _ _ _ (omega (arith, c.if-end-i-ge-MANY.true, c.requires.0)) c.joined.ensures
