-- `paper::write`: the refusals in their order, then the listing.
use Rattle.paper.proofs.Laws.{in_room, no_room, other_length}
use Rattle.paper.proofs.write.Goals as goal

pub returns-then-program-ne-WORDS : goal.returns-then-program-ne-WORDS
returns-then-program-ne-WORDS c =
    let a = c.args in
    other_length a.program.now a.room.now c.if-program-ne-WORDS.true

pub returns-then-room-n : goal.returns-then-room-n
returns-then-room-n c =
    let a = c.args in
    no_room a.program.now a.room.now c.if-program-ne-WORDS.false c.size-n.ensures c.if-room-n.true

pub returns : goal.returns
returns c =
    let a = c.args in
    in_room a.program.now a.room.now c.if-program-ne-WORDS.false c.size-n.ensures c.if-room-n.false c.fill.ensures
