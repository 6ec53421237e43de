-- A kind 1 body passes through paper unchanged: what C writes as a listing reads back as the same bytes, and a text that is taken is the listing of the program that then stands in the room.
use Rattle.std.specs.Prelude.{Result}
use Prim.Native.Nat.{ℕ, ◌+◌, ◌*◌, ◌≤◌}
use mathlib.Core.Path.{◌≡◌, ◌∙◌, refl, sym, ap}
use mathlib.Core.List.{List, ◌++◌}
use native.Mathlib.Omega.{arith}
use lib.Dec.{ltb}
use lib.ListN.{length, take, drop}
use lib.Seq.{take_all, take-append_seam}
use borrow.Author.Tests.{le-ltb, ltb-true, ltb-false}
use Rattle.lent.specs.Lent.{over, pair_at_of}
use Rattle.lent.specs.Outcome.{Outcome}
use Rattle.lent.proofs.Laws.{test, never, by_test, by_lt, by_eq, at_past}
use Rattle.refusal.specs.declared.Refusal.TheVariants.{Listing}
use Rattle.refusal.specs.Told.{Said, counted, done_told, refused_told}
use Rattle.wire.specs.Words.{words_of, pairs_of}
use Rattle.wire.proofs.Laws.{length_words, words_at}
use Rattle.wire.proofs.Trips.{words_back, bytes_back}
use Rattle.book_write.specs.Writing.{AllBytes}
use Rattle.paper.specs.Listing.{listing_of, good_lines, whole, placed_of, write_of, written_told, taken_told, AllWords, FirstBad, Listed}
use Rattle.paper.proofs.RoundTrip.{lines_back, listed_whole, whole_listed, first_bad}
use Rattle.host.specs.Told.{Filled, room_told}
use Rattle.host.specs.Listings.{bytes_of, taken_of, Stored, stored, stored_told, host_listing_write_of, host_listing_read_of}
use Rattle.refusal.specs.declared.Refusal.{Refusal}

words_sized : (b : List ℕ) → AllBytes b → AllWords (words_of b 4096)
unfolding pair_at_of
words_sized b f i =
    test (ltb i 4096)
    (λ t. rw (words_at b 4096 i (ltb-true i 4096 t)) (omega (arith, f (i * 2), f (i * 2 + 1))))
    (λ t. let k = ltb-false i 4096 t in rw (← (at_past (words_of b 4096) i (omega (arith, length_words b 4096)))) (omega arith))

listed_back : (body room : List ℕ) → length body ≡ 8192 → AllBytes body → 8192 ≤ length room → host_listing_read_of (listing_of (words_of body 4096)) room ≡ stored done_told (over body room)
unfolding host_listing_read_of taken_of bytes_of stored_told taken_told
listed_back body room n f h =
    let p = words_of body 4096 in
    let m = length_words body 4096 in
    let s = words_sized body f in
    let k : length body ≤ 8192 = omega arith in
    let w = listed_whole (listing_of p) p (record { many = m; sized = s; is = refl }) in
    let b : pairs_of p 4096 ≡ body = bytes_back body 4096 (omega arith) f ∙ take_all 8192 body k in
    rw (w, lines_back p m s, le-ltb (length room) 8192 h, b)

-- what C is told was written: the body is one, and so many bytes of the room are its listing
abbrev Wrote : List ℕ → Filled → Type 0
Wrote body r = r.counted.told.number ≡ 0 → (length body ≡ 8192) × (take r.counted.count r.room ≡ listing_of (words_of body 4096))

wrote : (body text : List ℕ) (count : ℕ) → Wrote body (host_listing_write_of body text count)
unfolding host_listing_write_of room_told write_of placed_of written_told refused_told done_told over
wrote body text count =
    let p = words_of body 4096 in
    let l = listing_of p in
    let Says : Outcome (Result ℕ Refusal) → Type 0 = λ a. length body ≡ 8192 → Wrote body (room_told written_told a count) in
    by_eq (Wrote body) (length body) 8192 _ _
    (λ n. by_eq Says (length p) 4096 _ _
    (λ m. by_lt Says (length text) (length l) _ _ (λ k b e. absurd (omega (arith, e))) (λ k b e. (b, take-append_seam l (drop (length l) text))))
    (λ m b e. absurd (omega (arith, e))) n)
    (λ n e. absurd (omega (arith, e)))

-- WHAT C WRITES AS A LISTING READS BACK: the bytes that were told are read as the same body
pub listing_back : (body text : List ℕ) (count : ℕ) (room : List ℕ) → AllBytes body → 8192 ≤ length room → (host_listing_write_of body text count).counted.told.number ≡ 0 →
    host_listing_read_of (take (host_listing_write_of body text count).counted.count (host_listing_write_of body text count).room) room ≡ stored done_told (over body room)
listing_back body text count room f h e =
    let w = wrote body text count e in
    ap (λ (t : List ℕ). host_listing_read_of t room) w.1 ∙ listed_back body room w.0 f h

-- a text that C is told was read: it is the listing of the program that stands in the room
abbrev Read : List ℕ → Stored → Type 0
Read t r = r.told.number ≡ 0 → Listed t (words_of r.room 4096)

pub listing_taken : (t room : List ℕ) → Read t (host_listing_read_of t room)
unfolding host_listing_read_of taken_of bytes_of stored_told taken_told refused_told done_told over
listing_taken t room =
    let g = good_lines t in
    let Says : Outcome (Result (Unit {0}) Refusal) → Type 0 = λ a. Read t (stored_told a) in
    by_test Says (whole t) _ _
    (λ a. by_lt Says (length room) 8192 _ _ (λ k e. absurd (omega (arith, e)))
    (λ k e.
    let l = whole_listed t a in
    let h : length g ≤ 4096 = omega (arith, l.many) in
    let w : words_of (pairs_of g 4096 ++ drop (length (pairs_of g 4096)) room) 4096 ≡ g =
    words_back g (drop (length (pairs_of g 4096)) room) 4096 (omega (arith, l.many)) l.sized ∙ take_all 4096 g h in
    rw w l))
    (λ a e. absurd (omega (arith, e)))

-- a text that C is told was refused by 26: it is no program's listing, n is its first bad line, and the room stays
abbrev Refused : List ℕ → List ℕ → ℕ → Stored → Type 0
Refused t room n r = r.told ≡ refused_told (Listing n) → (((p : List ℕ) → Listed t p → ⊥) × FirstBad t n) × (r.room ≡ room)

numbers : {s t : Said} → s ≡ t → s.number ≡ t.number
numbers e = ap (λ (s : Said). s.number) e

pub listing_refused : (t room : List ℕ) (n : ℕ) → Refused t room n (host_listing_read_of t room)
unfolding host_listing_read_of taken_of bytes_of stored_told taken_told refused_told done_told
listing_refused t room n =
    let Says : Outcome (Result (Unit {0}) Refusal) → Type 0 = λ a. Refused t room n (stored_told a) in
    by_test Says (whole t) _ _
    (λ a. by_lt Says (length room) 8192 _ _ (λ k e. absurd (omega (arith, numbers e))) (λ k e. absurd (omega (arith, numbers e))))
    (λ a e.
    let m : length (good_lines t) ≡ n = ap (λ (s : Said). s.value) e in
    (((λ p l. never (sym a ∙ listed_whole t p l)), rw (← m) (first_bad t)), refl))
