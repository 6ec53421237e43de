-- book_read and book_write, for C (01, "Panel book"): where the bodies lie, how many bytes were written, or what stood there where it is refused.
use Rattle.std.specs.Prelude.{ℕ, List}
use Rattle.book.specs.declared.Parts.{Parts}
use Rattle.book.specs.Book.{place, read_of, Found, reading_told}
use Rattle.book_write.specs.Writing.{write_of, written_told}
use Rattle.host.specs.Told.{Filled, room_told}

-- the offset and the length of each body
abbrev pub places : ℕ → ℕ → ℕ → ℕ → ℕ → ℕ → Parts
places p pn w wn v vn = record { program = place p pn; wiring = place w wn; level = place v vn }

unfoldable pub host_read_of : List ℕ → Parts → Found
host_read_of file old = reading_told (read_of file) old

unfoldable pub host_write_of : List ℕ → List ℕ → List ℕ → List ℕ → ℕ → Filled
host_write_of program wiring level room count = room_told written_told (write_of program wiring level room) count
