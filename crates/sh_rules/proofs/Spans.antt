-- Spans of a memory whose bits are taken together, and the memory whose spans all keep their rule.
use Rattle.std.specs.Prelude.{MatchOption, None, Option, Some}
use mathlib.Core.Path.{◌≡◌, refl}
use mathlib.Core.Bool.{Bool, true, false}
use mathlib.Core.List.{List, [], ◌∷◌}
use Prim.Native.Nat.{ℕ, zero, suc, ◌+◌, ◌-◌, ◌<◌, ◌≤◌}
use native.Mathlib.Omega.{arith}
use native.Mathlib.Nat.{add-zero, zero-add}
use lib.Dec.{ltb, leb}
use lib.Bits.{bit_and}
use lib.ListN.{length}
use borrow.Author.Tests.{leb-true, ltb-true, ltb-false, eqb-true, lt-ltb}
use Rattle.lent.specs.Lent.{at, fails_from, joined_of}
use Rattle.lent.proofs.Laws.{test, by_lt, at_past}
use Rattle.lent.proofs.Bits.{joined_above}
use Rattle.sh_map.specs.declared.map.Kind.{Kind}
use Rattle.sh_map.specs.Map.{kind_of, held_in, held_of}
use Rattle.sh_map.proofs.Within.{nibble_within}
use Rattle.sh_rules.specs.Rules.{cell_fits, broken_from}
use Rattle.sh_rules.specs.Spans.{Within, FitBelow}
use Rattle.sh_rules.proofs.Fits.{unbroken}

-- bits taken together are no less than any of them
pub within_by : (l : List ℕ) (a e top b : ℕ) → b ≡ joined_of l a (e - a) → leb b top ≡ true → Within l a e top
within_by l a e top b p t i h k = omega (arith, joined_above l a e i h k, p, leb-true b top t)

-- nothing fails where each element passes
fails_none : (f : ℕ → ℕ → Bool) (l : List ℕ) (i : ℕ) → ((k : ℕ) → k < length l → f (i + k) (at l k) ≡ true) → None ≡ fails_from f l i
unfolding fails_from
fails_none f [] i h = refl
fails_none f (v ∷ l) i h =
    let e : f i v ≡ true = rw add-zero at (h 0 (omega arith)) in
    rw e (fails_none f l (i + 1) (λ k b. let z : i + suc k ≡ i + 1 + k = omega arith in rw z at (h (suc k) (omega arith))))

-- the first that fails comes after those that pass
fails_first : (f : ℕ → ℕ → Bool) (l : List ℕ) (i n : ℕ) → n < length l → ((k : ℕ) → k < n → f (i + k) (at l k) ≡ true) → f (i + n) (at l n) ≡ false → Some (i + n) ≡ fails_from f l i
unfolding fails_from
fails_first f [] i n b h e = absurd (omega arith)
fails_first f (v ∷ l) i zero b h e = let z : f i v ≡ false = rw add-zero at e in rw (z, add-zero)
fails_first f (v ∷ l) i (suc n) b h e =
    let p : f i v ≡ true = rw add-zero at (h 0 (omega arith)) in
    let z : i + suc n ≡ i + 1 + n = omega arith in
    rw (p, z) (fails_first f l (i + 1) n (omega arith) (λ k b. let y : i + suc k ≡ i + 1 + k = omega arith in rw y at (h (suc k) (omega arith))) (rw z at e))

-- the place that a search finds
pub first_of_fits : (l : List ℕ) (r : Option ℕ) → MatchOption r (FitBelow l (length l)) (λ i. (i < length l) × FitBelow l i × (cell_fits i (at l i) ≡ false)) → r ≡ broken_from l 0
first_of_fits l None h = fails_none cell_fits l 0 (λ k b. rw zero-add (h k b))
first_of_fits l (Some i) h =
    let z : 0 + i ≡ i = omega arith in
    rw z at (fails_first cell_fits l 0 i h.0 (λ k b. rw zero-add (h.1 k b)) (rw zero-add h.2))

-- Spans that all keep their rule make a memory that does.
module _ (l : List ℕ) (n : length l ≡ 1024) (low : FitBelow l 32)
    (plain : Within l 0x020 0x170 15) (gap : Within l 0x170 0x300 0) (display : Within l 0x300 0x349 15) (gap2 : Within l 0x349 0x358 0)
    (scan : Within l 0x358 0x36E 15) (gap3 : Within l 0x36E 0x370 0) (sound : Within l 0x370 0x378 15) (rest : Within l 0x378 0x400 0) where
  cell : (i : ℕ) → bit_and (at l i) (held_of i) ≡ at l i
  unfolding held_of kind_of held_in cell_fits
  cell i =
      let P : Kind → Type 0 = λ k. bit_and (at l i) (held_in k i) ≡ at l i in
      let nibble : at l i ≤ 15 → bit_and (at l i) 15 ≡ at l i = λ h. nibble_within (at l i) 15 (omega arith) refl in
      let none : at l i ≤ 0 → bit_and (at l i) 0 ≡ at l i = λ h. let z : at l i ≡ 0 = omega arith in rw z in
      by_lt P i 0x020 _ _ (λ a. rw (lt-ltb i 0x020 a) at (eqb-true (bit_and (at l i) (held_of i)) (at l i) (low i a)))
      (λ a. by_lt P i 0x170 _ _ (λ b. nibble (plain i a b))
      (λ b. by_lt P i 0x300 _ _ (λ d. none (gap i b d))
      (λ d. by_lt P i 0x349 _ _ (λ e. nibble (display i d e))
      (λ e. by_lt P i 0x358 _ _ (λ f. none (gap2 i e f))
      (λ f. by_lt P i 0x36E _ _ (λ g. nibble (scan i f g))
      (λ g. by_lt P i 0x370 _ _ (λ h. none (gap3 i g h))
      (λ h. by_lt P i 0x378 _ _ (λ k. nibble (sound i h k))
      (λ k. none (test (ltb i 0x400) (λ t. rest i k (ltb-true i 0x400 t)) (λ t. rw (← at_past l i (rw n (ltb-false i 0x400 t))) (omega arith)))))))))))

  pub unbroken_spans : broken_from l 0 ≡ None
  unbroken_spans = unbroken l 0 (λ i. rw zero-add (cell i))
