-- What the calls answer, branch by branch.
use Rattle.std.specs.Prelude.{Err, Ok, Result}
use mathlib.Core.Path.{◌≡◌, ◌∙◌, refl, sym, ap}
use mathlib.Core.Bool.{Bool, true, false, not}
use mathlib.Core.List.{List}
use Prim.Native.Nat.{ℕ, ◌*◌, ◌<◌, ◌≤◌}
use native.Mathlib.Omega.{arith}
use lib.Dec.{ltb, eqb}
use lib.ListN.{length, drop}
use borrow.Author.Tests.{lt-ltb, le-ltb, eq-eqb, ne_eqb, not-true, not-false}
use Rattle.lent.specs.Lent.{pasted_of, over}
use Rattle.lent.specs.Outcome.{Outcome, outcome}
use Rattle.lent.proofs.Laws.{pasted_front}
use Rattle.refusal.specs.declared.Refusal.TheVariants.{ProgramLength, Room, NotAskable, Field}
use Rattle.sh_map.specs.Map.{askable_of}
use Rattle.wire.specs.Words.{words_of, pairs_of}
use Rattle.wire.proofs.Laws.{length_pairs, pairs_front}
use Rattle.writers.specs.Answer.{filled_of}
use Rattle.tables.specs.Tables.{built_of, matches_of}
use Rattle.tables.proofs.Built.{matches_told}
use Rattle.xref.specs.Answer.{answered_of, list_of}
use Rattle.xref.specs.Chain.{Held, Moved}
use Rattle.xref.specs.Replace.{Replaced, build_of, replaced, word_replaced, changed_of, replace_of}
use Rattle.refusal.specs.declared.Refusal.{Refusal}

-- The bytes of n numbers in the room, or 7.
module _ (t room : List ℕ) (n : ℕ) where
  pub no_room : length room < n * 2 → outcome (Err (Room (n * 2))) room ≡ filled_of (pairs_of t n) room
  unfolding filled_of
  no_room h = rw (length_pairs t n, lt-ltb (length room) (n * 2) h)

  pub in_room : {o : List ℕ} → n * 2 ≤ length room → o ≡ pasted_of room 0 (pairs_of t n) → outcome (Ok (n * 2)) o ≡ filled_of (pairs_of t n) room
  unfolding filled_of over
  in_room h e =
      let f = pasted_front room (pairs_of t n) (omega (arith, length_pairs t n)) in
      rw (e, f, length_pairs t n, le-ltb (length room) (n * 2) h)

-- a list at the front of a room, as bytes
pub filled_front : (l o t room : List ℕ) (n : ℕ) {r : Outcome (Result ℕ Refusal)} → n ≡ length l → t ≡ over l o → r ≡ filled_of (pairs_of t n) room → r ≡ filled_of (pairs_of l (length l)) room
unfolding over
filled_front l o t room n e f g =
    g ∙ ap (λ (b : List ℕ). filled_of b room) (rw (e, f) (pairs_front l (drop (length l) o) (length l) (omega arith)))

-- tables that match are the program's
pub matched_held : (body t : List ℕ) → length body ≡ 8192 → matches_of (words_of body 4096) t ≡ true → Held body t
matched_held body t n e =
    let r = matches_told (words_of body 4096) t e in
    record { size = n; room = r.0; fresh = r.1 }

module _ (body t : List ℕ) where
  pub build_length : {why : Refusal} → (why ≡ ProgramLength (length body)) × (length body ≡ 8192 → ⊥) → outcome (Err why) t ≡ build_of body t
  unfolding build_of
  build_length h = rw (ne_eqb (length body) 8192 h.1, h.0)

  module _ (h : length body ≡ 8192) where
    pub build_room : length t < 5120 → outcome (Err (Room 5120)) t ≡ build_of body t
    unfolding build_of
    build_room k = rw (eq-eqb (length body) 8192 h, lt-ltb (length t) 5120 k)

    pub build_done : {t' : List ℕ} → 5120 ≤ length t → t' ≡ built_of (words_of body 4096) t → outcome (Ok tt) t' ≡ build_of body t
    unfolding build_of
    build_done k e = rw (eq-eqb (length body) 8192 h, le-ltb (length t) 5120 k, e)

module _ (body t : List ℕ) (cell : ℕ) (room : List ℕ) where
  pub list_length : {why : Refusal} → (why ≡ ProgramLength (length body)) × (length body ≡ 8192 → ⊥) → outcome (Err why) room ≡ list_of body t cell room
  unfolding list_of
  list_length h = rw (ne_eqb (length body) 8192 h.1, h.0)

  module _ (h : length body ≡ 8192) (r : Bool) (e : r ≡ askable_of cell) where
    pub list_cell : not r ≡ true → outcome (Err (NotAskable cell)) room ≡ list_of body t cell room
    unfolding list_of
    list_cell k = rw (eq-eqb (length body) 8192 h, ← e, not-true r k)

    pub list_asked : not r ≡ false → (a : Result ℕ Refusal) (o : List ℕ) → outcome a o ≡ answered_of (words_of body 4096) t cell room → outcome a o ≡ list_of body t cell room
    unfolding list_of
    list_asked k a o u = rw (eq-eqb (length body) 8192 h, ← e, not-false r k) u

module _ (body t : List ℕ) (a w : ℕ) where
  -- both have moved
  pub moved_done : {body' t' : List ℕ} → Moved body t a w body' t' → replaced (Ok tt) body' t' ≡ word_replaced body t a w
  unfolding word_replaced
  moved_done m = rw (m.tables, m.program)

  pub replace_length : {why : Refusal} → (why ≡ ProgramLength (length body)) × (length body ≡ 8192 → ⊥) → replaced (Err why) body t ≡ replace_of body t a w
  unfolding replace_of
  replace_length h = rw (ne_eqb (length body) 8192 h.1, h.0)

  module _ (h : length body ≡ 8192) where
    pub replace_past : 4096 ≤ a → replaced (Err Field) body t ≡ replace_of body t a w
    unfolding replace_of
    replace_past k = rw (eq-eqb (length body) 8192 h, le-ltb a 4096 k)

    pub replace_there : {r : Replaced} → a < 4096 → r ≡ changed_of body t a w → r ≡ replace_of body t a w
    unfolding replace_of
    replace_there k e = rw (eq-eqb (length body) 8192 h, lt-ltb a 4096 k) e
