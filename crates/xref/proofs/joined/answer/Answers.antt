-- `xref::joined::answer`: the list of addresses, as bytes.
use native.Mathlib.Omega.{arith}
use Rattle.xref.proofs.CallLaws.{filled_front}
use Rattle.xref.proofs.Join.{joined_few}
use Rattle.xref.specs.Answer.{joined_of}
use Rattle.wire.proofs.Laws.{length_words}
use Rattle.wire.specs.Words.{words_of}
use Rattle.xref.proofs.joined.answer.Goals as goal

pub fill-requires : goal.fill-requires
fill-requires c = omega (arith, c.join-n.ensures.0, joined_few (words_of c.args.program.now 4096) c.args.cell, length_words c.args.program.now 4096)

pub returns : goal.returns
returns c =
    let j = c.join-n.ensures in
    filled_front (joined_of (words_of c.args.program.now 4096) c.args.cell) _ _ c.args.room.now _ j.0 j.1 c.fill.ensures
