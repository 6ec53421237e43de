-- `host::listings::store`: 7, or the bytes in the room.
use Rattle.host.proofs.Paper.{in_room, no_room}
use Rattle.host.proofs.listings.store.Goals as goal

pub returns-then-room-lt-PROGRAM : goal.returns-then-room-lt-PROGRAM
returns-then-room-lt-PROGRAM c = search (no_room, in_room)

pub returns : goal.returns
returns c = search (no_room, in_room)
