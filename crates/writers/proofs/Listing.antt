-- The list of writers is the list that the statement asks for, and no other list is: it holds what passes the test, which is what the statement says, and two ascending lists with the same members are equal.
use mathlib.Core.Path.{◌≡◌, refl, sym, ap, subst, ◌∙◌}
use mathlib.Core.Logic.{inl, inr, ⊎_elim}
use mathlib.Core.Bool.{true}
use mathlib.Core.List.{List, [], ◌∷◌}
use Prim.Native.Nat.{ℕ, zero, suc, ◌+◌, ◌≤◌, ◌<◌}
use native.Mathlib.Omega.{arith}
use native.Mathlib.Nat.{zero-add}
use lib.ListN.{length}
use Rattle.lent.specs.Lent.{at}
use Rattle.lent.proofs.Laws.{by_test}
use Rattle.sh_map.specs.Map.{askable_of}
use Rattle.sh_rules.proofs.Fits.{fit_of}
use Rattle.writers.specs.Test.{writes_of}
use Rattle.writers.specs.List.{writers_from, writers_of, Up, Has, Listing}
use Rattle.writers.proofs.Exact.{sound, complete}

-- what stands in a list that ascends from k on is at least k
at_least : (k a : ℕ) (l : List ℕ) → Up k l → Has a l → k ≤ a
at_least k a [] u h = absurd h
at_least k a (b ∷ l) u h = ⊎_elim (λ e. omega (arith, u.0)) (λ t. let r = at_least (b + 1) a l u.1 t in omega (arith, u.0)) h

-- of two ascending lists with the same first and the same members, the rests have the same members
rest_of : (a : ℕ) (l m : List ℕ) → Up (a + 1) l → ((x : ℕ) → Has x (a ∷ l) → Has x (a ∷ m)) → (x : ℕ) → Has x l → Has x m
rest_of a l m u f x h = ⊎_elim (λ e. let r = at_least (a + 1) x l u h in absurd (omega arith)) (λ t. t) (f x (inr h))

firsts : (k a b : ℕ) (l m : List ℕ) → Up k (a ∷ l) → Up k (b ∷ m) → Has a (b ∷ m) → Has b (a ∷ l) → a ≡ b
firsts k a b l m u v f g =
    ⊎_elim (λ e. e)
    (λ s. ⊎_elim (λ e. sym e) (λ t. let p = at_least (b + 1) a m v.1 s in let q = at_least (a + 1) b l u.1 t in omega arith) g) f

same_members : (k : ℕ) (l m : List ℕ) → Up k l → Up k m → ((a : ℕ) → Has a l → Has a m) → ((a : ℕ) → Has a m → Has a l) → l ≡ m
same_members k [] [] u v f g = refl
same_members k [] (b ∷ m) u v f g = absurd (g b (inl refl))
same_members k (a ∷ l) [] u v f g = absurd (f a (inl refl))
same_members k (a ∷ l) (b ∷ m) u v f g =
    let e : a ≡ b = firsts k a b l m u v (f a (inl refl)) (g b (inl refl)) in
    let v' : Up (a + 1) m = rw e v.1 in
    let f' : (x : ℕ) → Has x (a ∷ l) → Has x (a ∷ m) = subst (λ (c : ℕ). (x : ℕ) → Has x (a ∷ l) → Has x (c ∷ m)) (sym e) f in
    let g' : (x : ℕ) → Has x (a ∷ m) → Has x (a ∷ l) = subst (λ (c : ℕ). (x : ℕ) → Has x (c ∷ m) → Has x (a ∷ l)) (sym e) g in
    ap (λ (c : ℕ). c ∷ l) e ∙ ap (λ (t : List ℕ). b ∷ t) (same_members (a + 1) l m u.1 v' (rest_of a l m u.1 f') (rest_of a m l v' g'))

pub listing_unique : (p : List ℕ) (c : ℕ) (l m : List ℕ) → Listing p c l → Listing p c m → l ≡ m
listing_unique p c l m x y =
    same_members 0 l m x.ascending y.ascending (λ a h. y.every a (x.only a h)) (λ a h. x.every a (y.only a h))

-- an address of a list that starts at a, by its place in the program
record Place (p : List ℕ) (c a b : ℕ) : Type 0 where
  i : ℕ
  is : b ≡ a + i
  within : i < length p
  writes : writes_of (at p i) c ≡ true

-- What the walk over a program from address a on lists.
module _ (c : ℕ) where
  listed_up : (k a : ℕ) (p : List ℕ) → k ≤ a → Up k (writers_from a p c)
  unfolding writers_from
  listed_up k a [] h = tt
  listed_up k a (w ∷ p) h =
      by_test (Up k) (writes_of w c) _ _ (λ e. (h, listed_up (a + 1) (a + 1) p (omega arith))) (λ e. listed_up k (a + 1) p (omega arith))

  -- an address further on
  later : (a b w : ℕ) (p : List ℕ) → Place p c (a + 1) b → Place (w ∷ p) c a b
  later a b w p r = record { i = suc r.i; is = omega arith; within = omega arith; writes = r.writes }

  listed_place : (a b : ℕ) (p : List ℕ) → Has b (writers_from a p c) → Place p c a b
  unfolding writers_from
  listed_place a b [] h = absurd h
  listed_place a b (w ∷ p) h =
      by_test (λ l. Has b l → Place (w ∷ p) c a b) (writes_of w c) _ _
      (λ e. ⊎_elim (λ q. record { i = 0; is = omega arith; within = omega arith; writes = e }) (λ t. later a b w p (listed_place (a + 1) b p t)))
      (λ e t. later a b w p (listed_place (a + 1) b p t)) h

  place_listed : (a i : ℕ) (p : List ℕ) → i < length p → writes_of (at p i) c ≡ true → Has (a + i) (writers_from a p c)
  unfolding writers_from
  place_listed a i [] h e = absurd (omega arith)
  place_listed a zero (w ∷ p) h e = rw e (inl (omega arith))
  place_listed a (suc i) (w ∷ p) h e =
      let z : a + suc i ≡ a + 1 + i = omega arith in
      let r : Has (a + suc i) (writers_from (a + 1) p c) = rw z (place_listed (a + 1) i p (omega arith) e) in
      by_test (Has (a + suc i)) (writes_of w c) _ _ (λ _. inr r) (λ _. r)

pub listed_exactly : (p : List ℕ) (c : ℕ) → length p ≡ 4096 → askable_of c ≡ true → Listing p c (writers_of p c)
unfolding writers_of
listed_exactly p c n h = record {
  ascending = listed_up c 0 0 p (omega arith);
  only = λ a k.
      let r = listed_place c 0 a p k in
      let e : a ≡ r.i = omega arith in
      complete p a c h (omega arith) (rw e r.writes);
  every = λ a d.
      let w = sound p a c h d in
      let f = (fit_of d.before d.well_formed).machine.pc in
      let t = d.there in
      rw zero-add at (place_listed c 0 a p (omega arith) w);
}
