-- The elements of a wiring as a search for one that does not fit finds them.
use Rattle.std.specs.Prelude.{length}
use Rattle.std.specs.Bool.{MatchBool}
use Rattle.std.specs.List.{AllWithin, HoldsAt, range_with_len}
use Rattle.std.proofs.lemmas.List.FromFn.{length-range_with_len, get_or-range_with_len}
use mathlib.Core.Path.{◌≡◌, ◌∙◌, refl, ap, sym}
use mathlib.Core.Bool.{Bool, true, false}
use mathlib.Core.List.{List}
use Prim.Native.Nat.{ℕ, zero, suc, ◌+◌, ◌<◌}
use native.Mathlib.Omega.{arith}
use Rattle.lent.specs.Lent.{both}
use Rattle.body.specs.Body.{element_fits, elements_fit}

both_false : (a : Bool) → false ≡ both a false
both_false true = refl
both_false false = refl

module _ (l : List ℕ) where
  each_fits : (n k : ℕ) → ((j : ℕ) → j < n → element_fits l (k + j) ≡ true) → true ≡ elements_fit l n k
  unfolding elements_fit
  each_fits zero k h = refl
  each_fits (suc n) k h =
      let a : element_fits l k ≡ true = ap (element_fits l) (omega arith) ∙ h 0 (omega arith) in
      rw a (each_fits n (k + 1) (λ j m. ap (element_fits l) (omega arith) ∙ h (j + 1) (omega arith)))

  one_fails : (n k j : ℕ) → j < n → element_fits l (k + j) ≡ false → false ≡ elements_fit l n k
  unfolding elements_fit
  one_fails zero k j h e = absurd (omega arith)
  one_fails (suc n) k zero h e =
      let a : element_fits l k ≡ false = ap (element_fits l) (omega arith) ∙ e in
      rw a
  one_fails (suc n) k (suc j) h e =
      let a : false ≡ elements_fit l n (k + 1) = one_fails n (k + 1) j (omega arith) (ap (element_fits l) (omega arith) ∙ e) in
      rw (← a) (both_false (element_fits l k))

  -- what a search over all of them says
  pub elements_by : (n : ℕ) (r : Bool)
      → MatchBool r (AllWithin (λ k. element_fits l k ≡ true) (range_with_len 0 n) 0 (length (range_with_len 0 n))) ((k : ℕ) × (k < length (range_with_len 0 n)) × HoldsAt (λ k. element_fits l k ≡ false) (range_with_len 0 n) k)
      → r ≡ elements_fit l n 0
  elements_by n true h =
      each_fits n 0
      (λ j m. ap (element_fits l) (sym (get_or-range_with_len 0 n j 0 m)) ∙ h j 0 (omega arith) (omega (arith, length-range_with_len 0 n)))
  elements_by n false (k, m, h) =
      let i : k < n = omega (arith, length-range_with_len 0 n) in
      one_fails n 0 k i (ap (element_fits l) (sym (get_or-range_with_len 0 n k 0 i)) ∙ h 0)
