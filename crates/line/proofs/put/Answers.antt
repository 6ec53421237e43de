-- `line::put`: one behind the other.
use native.Mathlib.Omega.{arith}
use Rattle.line.proofs.Laws.{line_few, line_laid, shown_fits}
use Rattle.line.proofs.put.Goals as goal

pub put_items-requires : goal.put_items-requires
put_items-requires c = (omega (arith, c.requires), shown_fits c.args.w c.ranges.w.fits c.show-s.ensures)

pub returns : goal.returns
returns c =
    let l = line_laid c.args.a c.args.w c.args.p _ _ _ c.show-s.ensures c.put_spaced.ensures c.put_spaced-2.ensures c.put_items.ensures in
    ((l.0, omega (arith, l.0, line_few c.args.a c.args.w c.ranges.w.fits)), l.1)
