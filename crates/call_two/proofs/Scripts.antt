-- A script that is found fine at once, as the loops find it; and that nothing of it is turned down.
use Rattle.std.specs.Prelude.{None}
use mathlib.Core.Path.{◌≡◌, ◌∙◌, refl, ap, sym}
use mathlib.Core.Bool.{Bool, true, false}
use mathlib.Core.List.{List, [], ◌∷◌, ◌++◌}
use Prim.Native.Nat.{ℕ, zero, suc, ◌+◌, ◌-◌, ◌*◌, ◌/◌, ◌%◌, ◌<◌, ◌≤◌}
use native.Mathlib.Omega.{arith}
use lib.Dec.{ltb, eqb}
use lib.ListN.{length, take, drop, length-drop}
use Rattle.std.proofs.lemmas.List.{take-append-drop, drop-drop}
use borrow.Author.Tests.{lt-ltb}
use Rattle.lent.specs.Lent.{both, at, joined_of, fails_from}
use Rattle.lent.proofs.Laws.{drop_more, both_true, never, test}
use Rattle.call_run.proofs.Laws.{both_swap}
use Rattle.lent.proofs.Bits.{joined_above}
use Rattle.sh_known.specs.Known.{known_of}
use Rattle.call_two.specs.Script.{event_fits, car_fits, fine_of}

both_turned : (a b : Bool) → both a b ≡ both b a
both_turned true true = refl
both_turned true false = refl
both_turned false true = refl
both_turned false false = refl

-- a script that ends behind its last entry, or behind a car
tail_fine : (l : List ℕ) → length l < 2 → fine_of l ≡ eqb (length l % 2) 0
unfolding fine_of
tail_fine [] h = refl
tail_fine (c ∷ []) h = refl
tail_fine (c ∷ e ∷ l) h = absurd (omega arith)

module _ (l : List ℕ) where
  -- one entry more is found
  pub entry_more : (i : ℕ) {k r : Bool} (ok : Bool) → i * 2 + 1 < length l → k ≡ both (ltb (at l (i * 2)) 2) (known_of (at l (i * 2 + 1))) → r ≡ both k ok → both r (fine_of (drop ((i + 1) * 2) l)) ≡ both ok (fine_of (drop (i * 2) l))
  unfolding fine_of
  entry_more i {k} ok h e f =
      let g : (i + 1) * 2 ≡ i * 2 + 1 + 1 = omega arith in
      rw (f, g, drop_more l (i * 2) (omega arith), drop_more l (i * 2 + 1) h, ← e) (both_swap k ok (fine_of (drop (i * 2 + 1 + 1) l)))

  -- what stands behind the last entry
  last_fine : {i : ℕ} → i ≡ length l / 2 → fine_of (drop (i * 2) l) ≡ eqb (length l % 2) 0
  last_fine {i} e =
      let n : length (drop (i * 2) l) ≡ length l % 2 = omega (arith, length-drop (i * 2) l) in
      let m : length (drop (i * 2) l) % 2 ≡ length l % 2 = omega arith in
      tail_fine (drop (i * 2) l) (omega arith) ∙ ap (λ (k : ℕ). eqb k 0) m

  pub entries_end : (ok : Bool) {i : ℕ} {r : Bool} → i ≡ length l / 2 → r ≡ both (eqb (length l % 2) 0) ok → both ok (fine_of (drop (i * 2) l)) ≡ fine_of l → r ≡ fine_of l
  entries_end ok e f g = f ∙ (both_turned (eqb (length l % 2) 0) ok ∙ (ap (λ (b : Bool). both ok b) (sym (last_fine e)) ∙ g))

-- entries of bytes that are 0 or 1
low_fine : (l : List ℕ) → length l % 2 ≡ 0 → ((k : ℕ) → k < length l → at l k ≤ 1) → fine_of l ≡ true
unfolding fine_of known_of
low_fine [] h z = refl
low_fine (c ∷ []) h z = absurd (omega arith)
low_fine (c ∷ e ∷ l) h z =
    rw (lt-ltb c 2 (omega (arith, z 0 (omega arith))), lt-ltb e 4 (omega (arith, z 1 (omega arith))))
    (low_fine l (omega arith) (λ k f. z (suc (suc k)) (omega arith)))

-- bytes whose bits taken together are 0 or 1 are 0 or 1
pub joined_fine : (l : List ℕ) {b : ℕ} → length l ≡ 64 → b ≡ joined_of l 0 (64 - 0) → b < 2 → true ≡ fine_of l
joined_fine l n p t = sym (low_fine l (omega arith) (λ k f. omega (arith, joined_above l 0 64 k (omega arith) (omega arith), p, t)))

fine_append : (a b : List ℕ) → length a % 2 ≡ 0 → fine_of (a ++ b) ≡ both (fine_of a) (fine_of b)
unfolding fine_of
fine_append [] b h = refl
fine_append (c ∷ []) b h = absurd (omega arith)
fine_append (c ∷ e ∷ a) b h = test (both (ltb c 2) (known_of e)) (λ t. rw (t, fine_append a b (omega arith))) (λ f. rw f)

-- a part of n bytes more is found
pub part_fine : (l : List ℕ) (i n : ℕ) {part : List ℕ} {k r : Bool} (ok : Bool) → length part % 2 ≡ 0 → part ≡ take n (drop i l) → k ≡ fine_of part → r ≡ both k ok → both r (fine_of (drop (i + n) l)) ≡ both ok (fine_of (drop i l))
part_fine l i n {part} {k} ok h p e f =
    let g : fine_of (drop i l) ≡ both k (fine_of (drop (i + n) l)) =
    ap fine_of (sym (take-append-drop n (drop i l)))
    ∙ (ap (λ (q : List ℕ). fine_of (q ++ drop n (drop i l))) (sym p)
    ∙ (fine_append part (drop n (drop i l)) h
    ∙ (ap (λ (b : Bool). both b (fine_of (drop n (drop i l)))) (sym e) ∙ ap (λ (q : List ℕ). both k (fine_of q)) (drop-drop n i l)))) in
    rw (f, g) (both_swap k ok (fine_of (drop (i + n) l)))

-- Nothing of a fine script is turned down.
pub fine_events : (l : List ℕ) (i : ℕ) → i % 2 ≡ 0 → fine_of l ≡ true → fails_from event_fits l i ≡ None
unfolding fine_of fails_from event_fits
fine_events [] i z h = refl
fine_events (c ∷ []) i z h = never h
fine_events (c ∷ e ∷ l) i z h =
    let b = both_true (both (ltb c 2) (known_of e)) (fine_of l) h in
    let g = both_true (ltb c 2) (known_of e) b.0 in
    let o : (i + 1) % 2 ≡ 1 = omega arith in
    rw (z, o, g.1) (fine_events l (i + 1 + 1) (omega arith) b.1)

pub fine_cars : (l : List ℕ) (i : ℕ) → i % 2 ≡ 0 → fine_of l ≡ true → fails_from car_fits l i ≡ None
unfolding fine_of fails_from car_fits
fine_cars [] i z h = refl
fine_cars (c ∷ []) i z h = never h
fine_cars (c ∷ e ∷ l) i z h =
    let b = both_true (both (ltb c 2) (known_of e)) (fine_of l) h in
    let g = both_true (ltb c 2) (known_of e) b.0 in
    let o : (i + 1) % 2 ≡ 1 = omega arith in
    rw (z, o, g.0) (fine_cars l (i + 1 + 1) (omega arith) b.1)

pub fine_whole : (l : List ℕ) → fine_of l ≡ true → eqb (length l % 2) 0 ≡ true
unfolding fine_of
fine_whole [] h = refl
fine_whole (c ∷ []) h = never h
fine_whole (c ∷ e ∷ l) h =
    let b = both_true (both (ltb c 2) (known_of e)) (fine_of l) h in
    let n : length (c ∷ e ∷ l) % 2 ≡ length l % 2 = omega arith in
    ap (λ (k : ℕ). eqb k 0) n ∙ fine_whole l b.1
