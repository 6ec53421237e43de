-- picture, for C (01, "Panel book"): how many elements were written, or what stood there where it is refused.
use Rattle.std.specs.Prelude.{ℕ, List, eqb, length}
use Rattle.lent.specs.Lent.{pick}
use Rattle.sh_state.specs.State.{state}
use Rattle.picture.specs.Picture.{picture_of, drawn_told}
use Rattle.wire.specs.Record.{record_of}
use Rattle.refusal.specs.Told.{counted}
use Rattle.host.specs.Told.{Filled, filled, room_told, short_told}

unfoldable pub host_picture_of : List ℕ → List ℕ → List ℕ → List ℕ → ℕ → Filled
host_picture_of l b wiring room count =
    pick (eqb (length b) 45)
    (room_told drawn_told (picture_of (state (record_of b) l) wiring room) count)
    (filled (counted (short_told l) count) room)
