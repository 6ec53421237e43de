-- `line::length`: the table's entry.
use native.Mathlib.Omega.{arith}
use Rattle.line.proofs.Laws.{length_by_lem, lengths}
use Rattle.mnemonics.proofs.Laws.{word_fits}
use Rattle.line.proofs.length.Goals as goal

pub offset_bounds-row : goal.offset_bounds-row
offset_bounds-row c = omega (arith, c.row_of-row.ensures, (word_fits c.args.w c.ranges.w.fits).row)

pub bounds-row : goal.bounds-row
bounds-row c = omega (arith, c.row_of-row.ensures, (word_fits c.args.w c.ranges.w.fits).row)

pub returns : goal.returns
unfolding lengths
returns c = length_by_lem 0 c.args.w c.ranges.w.fits c.row_of-row.ensures
