-- `xref::joined::fill`: 7, or the bytes in the room.
use Rattle.xref.proofs.CallLaws.{in_room, no_room}
use Rattle.xref.proofs.joined.fill.Goals as goal

pub returns-then-room-needed : goal.returns-then-room-needed
returns-then-room-needed c = search (no_room, in_room)

pub returns : goal.returns
returns c = search (no_room, in_room)
