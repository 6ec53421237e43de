-- listing_write and listing_read, for C (02, P3): the program is a kind 1 body, its length and the rooms are told in bytes.
use Rattle.std.specs.Prelude.{ℕ, List, ltb, eqb, length, Err, Ok, Result}
use Rattle.lent.specs.Lent.{pick, over}
use Rattle.lent.specs.Outcome.{Outcome, outcome}
use Rattle.refusal.specs.declared.Refusal.TheVariants.{ProgramLength, Room, Listing}
use Rattle.refusal.specs.Told.{Said}
use Rattle.wire.specs.Words.{words_of, pairs_of}
use Rattle.paper.specs.Listing.{good_lines, whole, write_of, written_told, taken_told}
use Rattle.host.specs.Told.{Filled, room_told}
use Rattle.refusal.specs.declared.Refusal.{Refusal}

-- "another length is 1, told in bytes"; then 7, with the length of this listing
unfoldable pub host_listing_write_of : List ℕ → List ℕ → ℕ → Filled
host_listing_write_of body text count =
    pick (eqb (length body) 8192)
    (room_told written_told (write_of (words_of body 4096) text) count)
    (room_told written_told (outcome (Err (ProgramLength (length body))) text) count)

-- 7, with 8,192 bytes; else the program, two bytes for each word, and what lies beyond it stays
unfoldable pub bytes_of : List ℕ → List ℕ → Outcome (Result (Unit {0}) Refusal)
bytes_of p room =
    pick (ltb (length room) 8192) (outcome (Err (Room 8192)) room) (outcome (Ok tt) (over (pairs_of p 4096) room))

-- 26, with the number of good lines that the text begins with; then 7
unfoldable pub taken_of : List ℕ → List ℕ → Outcome (Result (Unit {0}) Refusal)
taken_of text room =
    pick (whole text) (bytes_of (good_lines text) room) (outcome (Err (Listing (length (good_lines text)))) room)

-- what is said, and what the lent room then holds
pub record Stored : Type 0 where
  pub told : Said
  pub room : List ℕ

abbrev pub stored : Said → List ℕ → Stored
stored t l = record { told = t; room = l }

unfoldable pub stored_told : Outcome (Result (Unit {0}) Refusal) → Stored
stored_told a = stored (taken_told a.answer) a.room

unfoldable pub host_listing_read_of : List ℕ → List ℕ → Stored
host_listing_read_of text room = stored_told (taken_of text room)
