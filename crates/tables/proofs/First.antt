-- The lowest address kept under a cell, from an address of a program on: what it is, and that no other number is that.
use mathlib.Core.Path.{◌≡◌, ◌∙◌, refl, sym, subst}
use mathlib.Core.Bool.{true, false}
use mathlib.Core.List.{List, [], ◌∷◌}
use Prim.Native.Nat.{ℕ, zero, suc, ◌+◌, ◌-◌, ◌<◌, ◌≤◌}
use native.Mathlib.Omega.{arith}
use lib.Dec.{ltb}
use lib.ListN.{length, drop, drop_of_length-le}
use borrow.Author.Tests.{ltb-true, ltb-false}
use Rattle.lent.specs.Lent.{at}
use Rattle.lent.proofs.Laws.{test, drop_more}
use Rattle.tables.specs.Key.{none, under}
use Rattle.tables.specs.Tables.{first_from, first_of}

never_from : (c : ℕ) (p : List ℕ) (a : ℕ) → ((w : ℕ) → under w c ≡ false) → first_from c p a ≡ none
unfolding first_from
never_from c [] a f = refl
never_from c (w ∷ p) a f = rw (f w) (never_from c p (a + 1) f)

-- a cell that nothing is kept under
pub first_never : (p : List ℕ) (c a : ℕ) → ((w : ℕ) → under w c ≡ false) → first_of p c a ≡ none
unfolding first_of
first_never p c a f = never_from c (drop a p) a f

module _ (p : List ℕ) (c a : ℕ) where
  pub first_past : length p ≤ a → first_of p c a ≡ none
  unfolding first_of first_from
  first_past h = rw (drop_of_length-le p h)

  pub first_here : a < length p → under (at p a) c ≡ true → first_of p c a ≡ a
  unfolding first_of first_from
  first_here h e = rw (drop_more p a h, e)

  pub first_on : a < length p → under (at p a) c ≡ false → first_of p c a ≡ first_of p c (a + 1)
  unfolding first_of first_from
  first_on h e = rw (drop_more p a h, e)

-- address m is the lowest from a on, or none is
pub record First (p : List ℕ) (c a m : ℕ) : Type 0 where
  pub from : a ≤ m
  pub most : m ≤ 4096
  pub kept : m < 4096 → under (at p m) c ≡ true
  pub others : (b : ℕ) → a ≤ b → b < m → under (at p b) c ≡ false

module _ (p : List ℕ) (n : length p ≡ 4096) (c : ℕ) where
  pub first_is : (a m : ℕ) → First p c a m → first_of p c a ≡ m
  first_is a m f = go (m - a) a (omega (arith, f.from)) f.others
    where
      go : (d k : ℕ) → k + d ≡ m → ((b : ℕ) → k ≤ b → b < m → under (at p b) c ≡ false) → first_of p c k ≡ m
      go zero k e o =
          let z : k ≡ m = omega arith in
          test (ltb m 4096) (λ t. let h = ltb-true m 4096 t in rw z (first_here p c m (omega arith) (f.kept h)))
          (λ t. let h = ltb-false m 4096 t in let q : none ≡ m = omega (arith, f.most) in first_past p c k (omega arith) ∙ q)
      go (suc d) k e o = first_on p c k (omega (arith, f.most)) (o k (omega arith) (omega arith)) ∙ go d (k + 1) (omega arith) (λ b h. o b (omega arith))

  pub first_told : (a : ℕ) → a ≤ 4096 → First p c a (first_of p c a)
  first_told a h = go (4096 - a) a (omega arith)
    where
      go : (d k : ℕ) → k + d ≡ 4096 → First p c k (first_of p c k)
      go zero k e =
          subst (First p c k) (sym (first_past p c k (omega arith)))
          (record { from = omega arith; most = omega arith; kept = λ i. absurd (omega arith); others = λ b i j. absurd (omega arith) })
      go (suc d) k e =
          test (under (at p k) c)
          (λ t. subst (First p c k) (sym (first_here p c k (omega arith) t))
          (record { from = omega arith; most = omega arith; kept = λ _. t; others = λ b i j. absurd (omega arith) }))
          (λ t.
          let r = go d (k + 1) (omega arith) in
          subst (First p c k) (sym (first_on p c k (omega arith) t))
          (record {
            from = omega (arith, r.from);
            most = r.most;
            kept = r.kept;
            others = λ b i j. test (ltb k b) (λ u. let v = ltb-true k b u in r.others b (omega arith) j)
                (λ u. let v = ltb-false k b u in let z : b ≡ k = omega arith in rw z t);
          }))

  -- from an address on that is not past it, the lowest is the same
  pub first_skip : (a m : ℕ) → a ≤ m → m ≤ first_of p c a → first_of p c m ≡ first_of p c a
  first_skip a m h k =
      test (ltb 4096 a)
      (λ t. let i = ltb-true 4096 a t in first_past p c m (omega arith) ∙ sym (first_past p c a (omega arith)))
      (λ t.
      let i = ltb-false 4096 a t in
      let r = first_told a i in
      first_is m (first_of p c a) (record { from = k; most = r.most; kept = r.kept; others = λ b u v. r.others b (omega arith) v }))

  pub first_before : (a b : ℕ) → a ≤ b → b < 4096 → under (at p b) c ≡ true → first_of p c a ≤ b
  first_before a b h k e =
      test (ltb b (first_of p c a))
      (λ t. let r = (first_told a (omega arith)).others b h (ltb-true b (first_of p c a) t) in let z : false ≡ true = sym r ∙ e in absurd (apart z))
      (λ t. ltb-false b (first_of p c a) t)
    where
      apart : false ≡ true → ⊥
      apart z = let y : ◌≡◌ {A = ℕ} 0 1 = cc in absurd (omega arith)
