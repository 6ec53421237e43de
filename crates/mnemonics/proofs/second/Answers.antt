-- `mnemonics::second`: the table's part.
use mathlib.Core.Path.{refl}
use Rattle.mnemonics.specs.declared.Row.{Row}
use Rattle.mnemonics.specs.Mnemonics.{table}
use Rattle.mnemonics.proofs.Laws.{row_part}
use Rattle.mnemonics.proofs.second.Goals as goal

pub returns : goal.returns
unfolding table
returns c = row_part (λ (r : Row). r.2) (λ r. r.second) _ c.args.row c.entry.ensures refl
