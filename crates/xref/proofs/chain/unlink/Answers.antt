-- `xref::chain::unlink`: the place that leads to the address is given the number behind it.
use native.Mathlib.Omega.{arith}
use lib.Seq.{lt-length-set}
use Rattle.xref.proofs.Moves.{moved_out, nop_none}
use mathlib.Core.Path.{refl}
use Rattle.xref.proofs.chain.unlink.Goals as goal

pub bounds-tables-address-2 : goal.bounds-tables-address-2
bounds-tables-address-2 c = lt-length-set c.args.tables.now c.before-i.result _ (omega (arith, c.requires.0.room))

pub returns : goal.returns
returns c =
    let i = c.before-i.ensures in
    let w = c.pair_set.ensures in
    moved_out _ _ c.args.address 0xFFFF c.requires.0 c.requires.2 (omega arith) _ _ w c.args.cell _ c.requires.1 i c.requires.3 nop_none refl
