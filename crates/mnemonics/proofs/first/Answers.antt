-- `mnemonics::first`: the table's part.
use mathlib.Core.Path.{refl}
use Rattle.mnemonics.specs.declared.Row.{Row}
use Rattle.mnemonics.specs.Mnemonics.{table}
use Rattle.mnemonics.proofs.Laws.{row_part}
use Rattle.mnemonics.proofs.first.Goals as goal

pub returns : goal.returns
unfolding table
returns c = row_part (λ (r : Row). r.1) (λ r. r.first) _ c.args.row c.entry.ensures refl
