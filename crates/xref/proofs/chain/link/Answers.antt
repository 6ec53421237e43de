-- `xref::chain::link`: the address is given the number of the place that leads past it, and that place leads to it.
use native.Mathlib.Omega.{arith}
use lib.Seq.{lt-length-set}
use Rattle.xref.proofs.Moves.{moved_in}
use mathlib.Core.Path.{refl}
use Rattle.xref.proofs.chain.link.Goals as goal

pub bounds-tables-i-2 : goal.bounds-tables-i-2
bounds-tables-i-2 c = lt-length-set c.args.tables.now _ _ (omega (arith, c.requires.0.room, c.before-i.ensures.place))

pub returns : goal.returns
returns c =
    let i = c.before-i.ensures in
    let w = c.pair_set.ensures in
    moved_in _ _ c.args.address c.args.word c.requires.0 c.requires.2 (omega arith) _ _ w c.args.cell _ c.requires.1 i c.requires.3 c.requires.4 refl
