-- What is told of a listing written, and the program of one read, as bytes.
use Rattle.std.specs.Prelude.{Err, Ok, Result}
use Prim.Native.Nat.{ℕ, ◌≤◌, ◌<◌}
use mathlib.Core.Path.{◌≡◌, refl}
use mathlib.Core.Bool.{true, false}
use mathlib.Core.List.{List}
use native.Mathlib.Omega.{arith}
use lib.ListN.{length}
use borrow.Author.Tests.{lt-ltb, le-ltb}
use Rattle.lent.specs.Lent.{pasted_of, over}
use Rattle.lent.specs.Outcome.{outcome}
use Rattle.lent.proofs.Laws.{pasted_front}
use Rattle.refusal.specs.declared.Refusal.{Refusal}
use Rattle.refusal.specs.declared.Refusal.TheVariants.{Room, Listing}
use Rattle.refusal.specs.Told.{Said, Counted, done_told, refused_told}
use Rattle.wire.specs.Words.{pairs_of}
use Rattle.wire.proofs.Laws.{length_pairs}
use Rattle.paper.specs.Listing.{good_lines, whole, write_of, written_told, taken_told}
use Rattle.host.specs.Told.{filled, room_told, count_told}
use Rattle.host.specs.Listings.{bytes_of, taken_of, Stored, stored, stored_told, host_listing_read_of}

pub listing_counts : (a : Result ℕ Refusal) (count : ℕ) → count_told a count ≡ written_told a count
unfolding count_told written_told
listing_counts (Ok n) count = refl
listing_counts (Err why) count = refl

-- the words read, the listing written, what is told
pub listed_told_lem : (p w o t : List ℕ) (count : ℕ) (a : Result ℕ Refusal) {k : Counted} → w ≡ p → outcome a t ≡ write_of w o → k ≡ written_told a count → filled k t ≡ room_told written_told (write_of p o) count
unfolding room_told
listed_told_lem p w o t count a q e f = rw (← q, ← e, f)

-- The words of a listing in bytes, or 26.
module _ (t room : List ℕ) where
  pub read_told : {w : List ℕ} {r : Stored} → whole t ≡ true → w ≡ good_lines t → r ≡ stored_told (bytes_of w room) → r ≡ host_listing_read_of t room
  unfolding host_listing_read_of taken_of
  read_told f q u = rw (f, ← q) u

  pub refused_told_lem : {why : Refusal} {s : Said} → whole t ≡ false → why ≡ Listing (length (good_lines t)) → s ≡ refused_told why → stored s room ≡ host_listing_read_of t room
  unfolding host_listing_read_of taken_of stored_told taken_told
  refused_told_lem f q u = rw (f, ← q, u)

-- The bytes of 4,096 words in the room, or 7.
module _ (w room : List ℕ) where
  pub no_room : {s : Said} → length room < 8192 → s ≡ refused_told (Room 8192) → stored s room ≡ stored_told (bytes_of w room)
  unfolding bytes_of stored_told taken_told
  no_room h e = rw (lt-ltb (length room) 8192 h, e)

  pub in_room : {o : List ℕ} {s : Said} → 8192 ≤ length room → o ≡ pasted_of room 0 (pairs_of w 4096) → s ≡ done_told → stored s o ≡ stored_told (bytes_of w room)
  unfolding bytes_of stored_told taken_told over
  in_room h e g =
      let f = pasted_front room (pairs_of w 4096) (omega (arith, length_pairs w 4096)) in
      rw (e, f, g, le-ltb (length room) 8192 h)
