-- The slots of a pass: which one a word has, where its address is noted, and what the slots hold as the words are passed.
use mathlib.Core.Path.{◌≡◌, ◌∙◌, sym, ap}
use mathlib.Core.Bool.{true, false}
use mathlib.Core.List.{List}
use Prim.Native.Nat.{ℕ, ◌+◌, ◌-◌, ◌*◌, ◌/◌, ◌%◌, ◌<◌, ◌≤◌}
use native.Mathlib.Omega.{arith}
use lib.Dec.{ltb, eqb}
use lib.ListN.{length, set}
use lib.Seq.{get_or-set_same, get_or-set_other}
use borrow.Author.Tests.{lt-ltb, le-ltb, ltb-true, ltb-false, eqb-true, eqb-false}
use Rattle.lent.specs.Lent.{at}
use Rattle.lent.proofs.Laws.{test, by_lt, by_test}
use Rattle.writers.specs.Bits.{named_of, may_of}
use Rattle.tables.specs.Key.{none, keeps_of, key_of, under}
use Rattle.tables.specs.Tables.{first_of}
use Rattle.tables.specs.Pass.{base_of, slot_of, place_of, head_of, Ruled}
use Rattle.tables.proofs.KeyLaws.{named_small, under_other, under_none, under_keeps, key_kept, key_other, key_still, under_named, named_under}
use Rattle.tables.proofs.First.{first_never, first_here, first_on}

-- a base and the lower seven bits are a slot
pub base_small : (i : ℕ) → base_of i ≤ 1151
unfolding base_of
base_small i = by_test (λ (b : ℕ). b ≤ 1151) (may_of (i * 128)) _ _ (λ _. omega (arith, named_small (i * 128))) (λ _. omega arith)

module _ (w : ℕ) where
  -- the upper nine bits tell whether the word writes what can differ
  may_high : may_of (w / 128 * 128) ≡ may_of w
  unfolding may_of
  may_high =
      let p : w / 128 * 128 / 2048 ≡ w / 2048 = omega arith in
      let q : w / 128 * 128 / 128 ≡ w / 128 = omega arith in
      rw (p, q)

  -- and the bank
  named_high : named_of (w / 128 * 128) + w % 128 ≡ named_of w
  unfolding named_of
  named_high =
      test (ltb w 0x4000)
      (λ t. let h = ltb-true w 0x4000 t in rw (t, lt-ltb (w / 128 * 128) 0x4000 (omega arith)) (omega arith))
      (λ t. let h = ltb-false w 0x4000 t in rw (t, le-ltb (w / 128 * 128) 0x4000 (omega arith)) (omega arith))

  pub slot_cell : may_of w ≡ true → slot_of w ≡ named_of w + 128
  unfolding slot_of base_of
  slot_cell m = rw (may_high, m) (omega (arith, named_high))

  pub slot_none : may_of w ≡ false → slot_of w ≡ w % 128
  unfolding slot_of base_of
  slot_none m = rw (may_high, m) (omega arith)

  pub slot_small : slot_of w < 1152
  slot_small =
      test (may_of w) (λ m. omega (arith, slot_cell m, named_small w)) (λ m. omega (arith, slot_none m))

  -- what stands in the slot is what stands under the word's cell
  pub slot_first : (p : List ℕ) (a : ℕ) → head_of p (slot_of w) a ≡ first_of p (key_of w) a
  unfolding head_of
  slot_first p a =
      test (may_of w)
      (λ m.
      let z : named_of w + 128 - 128 ≡ named_of w = omega arith in
      rw (slot_cell m, le-ltb (named_of w + 128) 128 (omega arith), z) (named m))
      (λ m. rw (slot_none m, lt-ltb (w % 128) 128 (omega arith), key_still w m) (sym (first_never p none a under_none)))
    where
      named : may_of w ≡ true → first_of p (named_of w) a ≡ first_of p (key_of w) a
      named m =
          test (keeps_of (named_of w)) (λ k. rw (key_kept w m k))
          (λ k. rw (key_other w m k) (first_never p (named_of w) a (λ v. under_other v (named_of w) k) ∙ sym (first_never p none a under_none)))

  -- an address is noted where its cell's slot is
  pub noted_here : (c : ℕ) → under w c ≡ true → place_of (slot_of w) ≡ c + 128
  unfolding place_of
  noted_here c e =
      let p = under_named w c e in
      let x : slot_of w ≡ c + 128 = omega (arith, slot_cell p.0, p.1) in
      let z : c + 128 - 128 ≡ c = omega arith in
      rw (x, le-ltb (c + 128) 128 (omega arith), z, under_keeps w c e)

  pub noted_most : place_of (slot_of w) ≤ 1152
  unfolding place_of
  noted_most =
      by_lt (λ (y : ℕ). y ≤ 1152) (slot_of w) 128 _ _ (λ h. omega arith)
      (λ h. by_test (λ (y : ℕ). y ≤ 1152) (keeps_of (slot_of w - 128)) _ _ (λ _. omega (arith, slot_small)) (λ _. omega arith))

  -- and in no other slot
  pub noted_there : (y : ℕ) → y < 1152 → place_of (slot_of w) ≡ y → (128 ≤ y) × (under w (y - 128) ≡ true)
  unfolding place_of
  noted_there y h =
      let Says : ℕ → Type 0 = λ v. v ≡ y → (128 ≤ y) × (under w (y - 128) ≡ true) in
      by_lt Says (slot_of w) 128 _ _ (λ k e. absurd (omega arith))
      (λ k. by_test Says (keeps_of (slot_of w - 128)) _ _
      (λ t e.
      let m : may_of w ≡ true = test (may_of w) (λ m. m) (λ m. absurd (omega (arith, slot_none m))) in
      let q : named_of w ≡ y - 128 = omega (arith, slot_cell m) in
      let z : slot_of w - 128 ≡ y - 128 = omega arith in
      (omega arith, named_under w (y - 128) (sym (ap keeps_of z) ∙ t) m q))
      (λ t e. absurd (omega arith)))

-- A slot that a function tells, and the place noted for it.
module _ {x : ℕ} (w : ℕ) (e : x ≡ slot_of w) where
  pub slot_within : x < 1152
  slot_within = omega (arith, slot_small w)

  pub place_within : (l : List ℕ) → Ruled place_of 1152 l → at l x ≤ 1152
  place_within l r = let z : at l x ≡ place_of (slot_of w) = ap (at l) e ∙ r.1 (slot_of w) (slot_small w) in omega (arith, noted_most w)

-- The slots, where the words from a + 1 on have been passed and that at a is: its address is noted.
module _ (p h : List ℕ) (a : ℕ) (i : a < length p) (n : length h ≡ 1153) (f : (x : ℕ) → x < 1152 → at h x ≡ head_of p x (a + 1)) where
  abbrev w : ℕ
  w = at p a

  other_slot : (x : ℕ) → (place_of (slot_of w) ≡ x → ⊥) → head_of p x (a + 1) ≡ head_of p x a
  unfolding head_of
  other_slot x e =
      test (ltb x 128) (λ t. rw t)
      (λ t.
      let y = ltb-false x 128 t in
      let z : x - 128 + 128 ≡ x = omega arith in
      rw t (sym (first_on p (x - 128) a i (test (under w (x - 128)) (λ u. absurd (e (noted_here w (x - 128) u ∙ z))) (λ u. u)))))

  pub slots_on : (x : ℕ) → x < 1152 → at (set h (place_of (slot_of w)) a) x ≡ head_of p x a
  unfolding head_of
  slots_on x k =
      test (eqb (place_of (slot_of w)) x)
      (λ t.
      let e = eqb-true (place_of (slot_of w)) x t in
      let r = noted_there w x k e in
      let u : at (set h (place_of (slot_of w)) a) x ≡ a = rw e (get_or-set_same h x a 0 (omega arith)) in
      u ∙ rw (le-ltb x 128 r.0) (sym (first_here p (x - 128) a i r.1)))
      (λ t.
      let e = eqb-false (place_of (slot_of w)) x t in
      get_or-set_other h (place_of (slot_of w)) x a 0 (λ q. e (sym q)) ∙ (f x k ∙ other_slot x e))
