-- `mnemonics::name`: the table's part, or nothing past its end.
use mathlib.Core.Path.{refl}
use borrow.Author.Tests.{lt-ltb, le-ltb}
use Rattle.mnemonics.specs.declared.Row.{Row}
use Rattle.mnemonics.specs.Mnemonics.{table, name_of}
use Rattle.mnemonics.proofs.Laws.{row_part}
use Rattle.mnemonics.proofs.name.Goals as goal

pub returns-then-row-lt-ROWS : goal.returns-then-row-lt-ROWS
unfolding table name_of
returns-then-row-lt-ROWS c = rw (lt-ltb _ _ c.if-row-lt-ROWS.true) (row_part (λ (r : Row). r.0.now) (λ r. r.name) _ c.args.row c.entry.ensures refl)

pub returns-else-row-lt-ROWS : goal.returns-else-row-lt-ROWS
unfolding name_of
returns-else-row-lt-ROWS c = rw (le-ltb _ _ c.if-row-lt-ROWS.false) refl
