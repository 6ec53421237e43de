-- `xref::chain::change`: NOP takes the place of the old word, and the new word that of NOP.
use native.Mathlib.Omega.{arith}
use Rattle.xref.proofs.Moves.{moved_held, moved_key, moved_twice, nop_none}
use mathlib.Core.Path.{◌∙◌}
use Rattle.xref.proofs.chain.change.Goals as goal

pub put_in-requires : goal.put_in-requires
put_in-requires c =
    let r = c.take_out.ensures in
    (moved_held _ _ c.args.address 0xFFFF _ _ r c.requires.0, c.requires.1, moved_key _ _ c.args.address 0xFFFF _ _ r c.requires.0 c.requires.1 (omega arith) ∙ nop_none)

pub returns : goal.returns
returns c =
    let r = c.take_out.ensures in
    moved_twice _ _ c.args.address 0xFFFF _ _ r c.args.word _ _ c.put_in.ensures
