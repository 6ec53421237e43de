-- A fresh build, number by number; and what it is for tables to match.
use mathlib.Core.Path.{◌≡◌, ◌∙◌, refl, sym, ap}
use mathlib.Core.Bool.{true, false, not}
use mathlib.Core.List.{List, [], ◌∷◌}
use Prim.Native.Nat.{ℕ, zero, suc, ◌+◌, ◌-◌, ◌<◌, ◌≤◌}
use native.Mathlib.Omega.{arith}
use native.Mathlib.Nat.{zero-add}
use lib.Dec.{ltb, eqb}
use lib.ListN.{length}
use lib.Seq.{ext_get_or}
use borrow.Author.Tests.{lt-ltb, le-ltb, ltb-true, ltb-false, eq-eqb, eqb-true}
use Rattle.lent.specs.Lent.{at, map_from}
use Rattle.lent.proofs.Laws.{test, never, both_true}
use Rattle.tables.specs.Key.{key_of}
use Rattle.tables.specs.Tables.{first_of, cell_at, from_at, fresh_at, built_of, same_of, matches_of}

length_map : (f : ℕ → ℕ → ℕ) (l : List ℕ) (k : ℕ) → length (map_from f l k) ≡ length l
unfolding map_from
length_map f [] k = refl
length_map f (v ∷ l) k = ap suc (length_map f l (k + 1))

map_at : (f : ℕ → ℕ → ℕ) (l : List ℕ) (k i : ℕ) → i < length l → at (map_from f l k) i ≡ f (k + i) (at l i)
unfolding map_from
map_at f [] k i h = absurd (omega arith)
map_at f (v ∷ l) k zero h = let z : k + 0 ≡ k = omega arith in rw z
map_at f (v ∷ l) k (suc i) h =
    let z : k + suc i ≡ k + 1 + i = omega arith in
    rw z (map_at f l (k + 1) i (omega arith))

-- The places of the tables.
module _ (p : List ℕ) where
  pub fresh_cell : (i : ℕ) → i < 1024 → fresh_at p i ≡ first_of p i 0
  unfolding fresh_at cell_at from_at
  fresh_cell i h = rw (lt-ltb i 1024 h)

  pub fresh_link : (a : ℕ) → fresh_at p (1024 + a) ≡ first_of p (key_of (at p a)) (a + 1)
  unfolding fresh_at cell_at from_at
  fresh_link a =
      let z : 1024 + a - 1024 ≡ a = omega arith in
      rw (le-ltb (1024 + a) 1024 (omega arith), z)

module _ (p t : List ℕ) where
  pub length_built : length (built_of p t) ≡ length t
  unfolding built_of
  length_built = length_map _ t 0

  pub built_at : (i : ℕ) → i < length t → i < 5120 → at (built_of p t) i ≡ fresh_at p i
  unfolding built_of
  built_at i h k = map_at _ t 0 i h ∙ rw (zero-add, lt-ltb i 5120 k)

  pub built_past : (i : ℕ) → i < length t → 5120 ≤ i → at (built_of p t) i ≡ at t i
  unfolding built_of
  built_past i h k = map_at _ t 0 i h ∙ rw (zero-add, le-ltb i 5120 k)

  -- numbers that are as they must be, place by place, are what the build gives
  pub built_is : (t' : List ℕ) → length t' ≡ length t → ((i : ℕ) → i < 5120 → at t' i ≡ fresh_at p i) → ((i : ℕ) → 5120 ≤ i → at t' i ≡ at t i) → t' ≡ built_of p t
  built_is t' n f g =
      ext_get_or 0 t' (built_of p t) (n ∙ sym length_built)
      (λ i h. test (ltb i 5120)
      (λ k. let j = ltb-true i 5120 k in f i j ∙ sym (built_at i (omega arith) j))
      (λ k. let j = ltb-false i 5120 k in g i j ∙ sym (built_past i (omega arith) j)))

  -- tables that a build leaves as they are, place by place
  pub built_held : 5120 ≤ length t → t ≡ built_of p t → (i : ℕ) → i < 5120 → at t i ≡ fresh_at p i
  built_held h e i k = ap (λ (l : List ℕ). at l i) e ∙ built_at i (omega arith) k

-- what a build leaves is the same, whatever program's tables lay there
pub built_again : (p q t : List ℕ) → built_of p (built_of q t) ≡ built_of p t
built_again p q t =
    let m = length_built q t in
    let n = length_built p (built_of q t) in
    ext_get_or 0 (built_of p (built_of q t)) (built_of p t) (n ∙ (m ∙ sym (length_built p t)))
    (λ i h. test (ltb i 5120)
    (λ k. let j = ltb-true i 5120 k in built_at p (built_of q t) i (omega arith) j ∙ sym (built_at p t i (omega arith) j))
    (λ k. let j = ltb-false i 5120 k in built_past p (built_of q t) i (omega arith) j ∙ (built_past q t i (omega arith) j ∙ sym (built_past p t i (omega arith) j))))

same_is : (l m : List ℕ) → same_of l m ≡ true → l ≡ m
unfolding same_of
same_is [] [] e = refl
same_is [] (b ∷ m) e = never e
same_is (a ∷ l) [] e = never e
same_is (a ∷ l) (b ∷ m) e =
    let r = both_true (eqb a b) (same_of l m) e in
    let h = eqb-true a b r.0 in
    let k = same_is l m r.1 in
    rw (h, k)

same_self : (l : List ℕ) → same_of l l ≡ true
unfolding same_of
same_self [] = refl
same_self (a ∷ l) = rw (eq-eqb a a refl) (same_self l)

-- Tables match exactly when there are 5,120 numbers or more and a fresh build leaves them: 29 otherwise.
module _ (p t : List ℕ) where
  pub matches_short : length t < 5120 → false ≡ matches_of p t
  unfolding matches_of
  matches_short h = rw (lt-ltb (length t) 5120 h)

  pub matches_told : matches_of p t ≡ true → (5120 ≤ length t) × (t ≡ built_of p t)
  unfolding matches_of
  matches_told e =
      let r = both_true (not (ltb (length t) 5120)) (same_of t (built_of p t)) e in
      (test (ltb (length t) 5120) (λ k. never (sym (ap not k) ∙ r.0)) (λ k. ltb-false (length t) 5120 k), same_is t (built_of p t) r.1)

  pub matches_holds : 5120 ≤ length t → t ≡ built_of p t → true ≡ matches_of p t
  unfolding matches_of
  matches_holds h e = rw (le-ltb (length t) 5120 h) (sym (same_self t) ∙ ap (same_of t) e)

  pub matches_fails : (t ≡ built_of p t → ⊥) → false ≡ matches_of p t
  matches_fails n = test (matches_of p t) (λ k. absurd (n (matches_told k).1)) sym
