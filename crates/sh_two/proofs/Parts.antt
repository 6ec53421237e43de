-- The entries of a script by their places, as the loops find them.
use mathlib.Core.Path.{◌≡◌, ◌∙◌, refl, ap, subst}
use mathlib.Core.List.{List, [], ◌∷◌, ◌++◌, append-nil}
use Prim.Native.Nat.{ℕ, zero, suc, ◌+◌, ◌-◌, ◌*◌, ◌/◌, ◌<◌, ◌≤◌}
use native.Mathlib.Omega.{arith}
use native.Mathlib.Numerals.{add-one}
use lib.ListN.{length, take, drop, set, length-drop}
use lib.Seq.{take-suc-set, take-set-le, append_snoc}
use borrow.Author.Tests.{eq-eqb, ne_eqb}
use Rattle.lent.specs.Lent.{at}
use Rattle.lent.proofs.Laws.{drop_more}
use Rattle.sh_two.specs.Two.{Entry, entry, entries_of, own_of}
use Rattle.sh_two.specs.Alone.{from, part_of, through_of}

-- less than two bytes are no entry
few : (l : List ℕ) → length l < 2 → entries_of l ≡ []
unfolding entries_of
few [] h = refl
few (c ∷ []) h = refl
few (c ∷ e ∷ l) h = absurd (omega arith)

module _ (l : List ℕ) where
  pub from_end : (i : ℕ) → length l / 2 ≤ i → from l i ≡ []
  from_end i h = few (drop (i * 2) l) (omega (arith, length-drop (i * 2) l))

  pub from_more : (i : ℕ) → i * 2 + 1 < length l → from l i ≡ entry (at l (i * 2)) (at l (i * 2 + 1)) ∷ from l (i + 1)
  unfolding entries_of
  from_more i h =
      let e : (i + 1) * 2 ≡ i * 2 + 1 + 1 = omega arith in
      rw (drop_more l (i * 2) (omega arith), drop_more l (i * 2 + 1) h, e)

  pub part_none : (i : ℕ) → part_of l i i ≡ []
  unfolding part_of
  part_none i = let e : i - i ≡ 0 = omega arith in rw e

  pub part_more : (i end : ℕ) → i < end → end * 2 ≤ length l → part_of l i end ≡ entry (at l (i * 2)) (at l (i * 2 + 1)) ∷ part_of l (i + 1) end
  unfolding part_of
  part_more i end h g =
      let e : end - i ≡ end - (i + 1) + 1 = omega arith in
      rw (from_more i (omega arith), e, add-one (end - (i + 1)))

  -- a part of n entries, and what stands behind it
  part_of_lem : (n i : ℕ) → (i + n) * 2 ≤ length l → (length (part_of l i (i + n)) ≡ n) × (from l i ≡ part_of l i (i + n) ++ from l (i + n))
  part_of_lem zero i h = let e : i + 0 ≡ i = omega arith in rw (e, part_none i) (refl, refl)
  part_of_lem (suc n) i h =
      let e : i + suc n ≡ i + 1 + n = omega arith in
      let r = part_of_lem n (i + 1) (omega arith) in
      rw (e, part_more i (i + 1 + n) (omega arith) (omega arith))
      (omega (arith, r.0), from_more i (omega arith) ∙ ap (λ (k : List Entry). entry (at l (i * 2)) (at l (i * 2 + 1)) ∷ k) r.1)

  pub part_length : (i end : ℕ) → i ≤ end → end * 2 ≤ length l → length (part_of l i end) ≡ end - i
  part_length i end h g =
      let e : i + (end - i) ≡ end = omega arith in
      subst (λ (v : ℕ). length (part_of l i v) ≡ end - i) e (part_of_lem (end - i) i (omega arith)).0

  pub part_rest : (i end : ℕ) → i ≤ end → end * 2 ≤ length l → from l i ≡ part_of l i end ++ from l end
  part_rest i end h g =
      let e : i + (end - i) ≡ end = omega arith in
      subst (λ (v : ℕ). from l i ≡ part_of l i v ++ from l v) e (part_of_lem (end - i) i (omega arith)).1

-- What was gathered, and the car's own of what is left.
module _ (l : List ℕ) (k i end : ℕ) (h : i < end) (g : end * 2 ≤ length l) (b : List ℕ) (n : ℕ) where
  abbrev stored : List ℕ
  stored = set b n (at l (i * 2 + 1))

  pub gathered_own : n < length b → at l (i * 2) ≡ k → take (n + 1) stored ++ own_of k (part_of l (i + 1) end) ≡ take n b ++ own_of k (part_of l i end)
  unfolding own_of
  gathered_own f e =
      rw (part_more l i end h g, eq-eqb (at l (i * 2)) k e, add-one n, take-suc-set b n (at l (i * 2 + 1)) f)
      (append_snoc (take n b) (at l (i * 2 + 1)) (own_of k (part_of l (i + 1) end)))

  pub gathered_other : (at l (i * 2) ≡ k → ⊥) → take n stored ++ own_of k (part_of l (i + 1) end) ≡ take n b ++ own_of k (part_of l i end)
  unfolding own_of
  gathered_other e = rw (part_more l i end h g, ne_eqb (at l (i * 2)) k e, take-set-le n b n (at l (i * 2 + 1)) (omega arith))

-- How many entries there are through the car's entry number j.
module _ (l : List ℕ) (k i end : ℕ) (h : i < end) (g : end * 2 ≤ length l) (j : ℕ) where
  pub through_own : (j ≡ 0 → ⊥) → at l (i * 2) ≡ k → through_of k (part_of l (i + 1) end) (j - 1) + 1 ≡ through_of k (part_of l i end) j
  unfolding through_of
  through_own f e = rw (part_more l i end h g, ne_eqb j 0 f, eq-eqb (at l (i * 2)) k e)

  pub through_other : (j ≡ 0 → ⊥) → (at l (i * 2) ≡ k → ⊥) → through_of k (part_of l (i + 1) end) j + 1 ≡ through_of k (part_of l i end) j
  unfolding through_of
  through_other f e = rw (part_more l i end h g, ne_eqb j 0 f, ne_eqb (at l (i * 2)) k e)

pub gathered_all : (l : List ℕ) (k i : ℕ) (b : List ℕ) → b ++ own_of k (part_of l i i) ≡ b
unfolding own_of
gathered_all l k i b = rw (part_none l i) (append-nil b)

pub through_all : (l : List ℕ) (k i j : ℕ) → through_of k (part_of l i i) j ≡ 0
unfolding through_of
through_all l k i j = rw (part_none l i)
