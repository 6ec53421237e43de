-- THE CARS DO NOT SEE EACH OTHER (02, P5): what comes of a car is what its own entries make of it, and what a one-car run of them gives.
use mathlib.Core.Path.{◌≡◌, ◌∙◌, refl, ap, sym}
use mathlib.Core.Bool.{Bool, true, false}
use mathlib.Core.List.{List, [], ◌∷◌, append-nil}
use Prim.Native.Nat.{ℕ, zero, suc, ◌+◌, ◌≤◌, max}
use native.Mathlib.Omega.{arith}
use native.Mathlib.Nat.{le_refl}
use borrow.Author.Tests.{le-ltb}
use Rattle.lent.specs.Lent.{both}
use Rattle.lent.proofs.Laws.{test, by_choice, by_lt}
use Rattle.sh_state.specs.State.{State}
use Rattle.sh_run.specs.declared.Stop.{Stop}
use Rattle.sh_run.specs.declared.Stop.TheVariants as stop
use Rattle.sh_run.specs.Run.{run_of}
use Rattle.sh_two.specs.Two.{Entry, Car, car, car_ran, stopped_of, taken_of, Cars, cars, of_car, passed_of, ended_of, Two, two, two_of, own_of}
use Rattle.sh_two.specs.Alone.{Alone, alone, alone_of, on_of}
use Rattle.sh_two.proofs.ByItself.{stays, by_parts}

-- the run reads no fewer entries than were read before
alone_from : (p : List ℕ) (xs : List Entry) (c : Car) (n : ℕ) → n ≤ (alone_of p xs c n).entries
unfolding alone_of
alone_from p [] c n = le_refl n
alone_from p (x ∷ xs) c n =
    by_choice (λ (r : Alone). n ≤ r.entries) (stopped_of (taken_of p x c).why) _ _ (omega arith)
    (omega (arith, alone_from p xs (taken_of p x c) (n + 1)))

-- both cars by themselves, and the later of their counts
abbrev apart : Alone → Alone → Two
apart a b = two (cars a.after b.after) (max a.entries b.entries)

both_turned : (a b : Bool) → both a b ≡ both b a
both_turned true true = refl
both_turned true false = refl
both_turned false true = refl
both_turned false false = refl

abbrev turned : Two → Two
turned r = two (cars r.after.second r.after.first) r.entries

max_first : {a b : ℕ} → b ≤ a → max a b ≡ a
max_first h = omega arith

max_second : {a b : ℕ} → a ≤ b → max a b ≡ b
max_second h = omega arith

module _ (p : List ℕ) where
  -- neither car is before the other
  pub two_turned : (xs : List Entry) (a b : Car) (n : ℕ) → two_of p xs (cars a b) n ≡ turned (two_of p xs (cars b a) n)
  unfolding two_of passed_of ended_of
  two_turned [] a b n = refl
  two_turned (x ∷ xs) a b n =
      let u = stopped_of (taken_of p x a).why in
      let v = stopped_of (taken_of p x b).why in
      rw (both_turned v u)
      (test (both u v) (λ t. rw t) (λ f. rw f (two_turned xs (taken_of p x a) (taken_of p x b) (n + 1))))

  -- one car has stopped: the run is the other's
  other_stopped : (xs : List Entry) (a b : Car) (n : ℕ) → stopped_of a.why ≡ true → stopped_of b.why ≡ false → two_of p xs (cars a b) n ≡ two (cars a (alone_of p xs b n).after) (alone_of p xs b n).entries
  unfolding two_of alone_of passed_of ended_of
  other_stopped [] a b n t f = refl
  other_stopped (x ∷ xs) a b n t f =
      rw (stays p x a t, t)
      (test (stopped_of (taken_of p x b).why) (λ u. rw u) (λ u. rw u (other_stopped xs a (taken_of p x b) (n + 1) t u)))

  pub by_themselves : (xs : List Entry) (a b : Car) (n : ℕ) → two_of p xs (cars a b) n ≡ apart (alone_of p xs a n) (alone_of p xs b n)
  unfolding two_of alone_of passed_of ended_of
  by_themselves [] a b n = rw (max_first (le_refl n))
  by_themselves (x ∷ xs) a b n =
      let a' = taken_of p x a in
      let b' = taken_of p x b in
      test (stopped_of a'.why)
      (λ t. test (stopped_of b'.why)
      (λ u. rw (t, u, max_first (le_refl (n + 1))))
      (λ u. rw (t, u, other_stopped xs a' b' (n + 1) t u, max_second (alone_from p xs b' (n + 1)))))
      (λ f. test (stopped_of b'.why)
      (λ u. rw (f, u, two_turned xs a' b' (n + 1), other_stopped xs b' a' (n + 1) u f, max_first (alone_from p xs a' (n + 1))))
      (λ u. rw (f, u) (by_themselves xs a' b' (n + 1))))

-- as the run finds it
pub both_ran : (p : List ℕ) (xs : List Entry) (a b : Car) {v w : Alone} {n : ℕ} → v ≡ alone_of p xs a 0 → w ≡ alone_of p xs b 0 → n ≡ max v.entries w.entries → two (cars v.after w.after) n ≡ two_of p xs (cars a b) 0
both_ran p xs a b {v} {w} e f g = ap (λ (k : ℕ). two (cars v.after w.after) k) g ∙ (ap (λ (u : Alone). apart u w) e ∙ (ap (λ (u : Alone). apart (alone_of p xs a 0) u) f ∙ sym (by_themselves p xs a b 0)))

-- no entry is left
on_none : (p : List ℕ) (c : Car) (n : ℕ) → (on_of p [] c n).after ≡ c
unfolding on_of alone_of
on_none p c n = by_choice (λ (r : Alone). r.after ≡ c) (stopped_of c.why) (alone c n) (alone c n) refl refl

-- a car that goes on comes to what the one-car run gives for its own entries
alone_own : (p : List ℕ) (xs : List Entry) (k target : ℕ) (s : State) (n : ℕ) → (alone_of p xs (car k target s stop.End) n).after ≡ car_ran (car k target s stop.End) (run_of p target (own_of k xs) s 0)
alone_own p xs k target s n =
    ap (λ (l : List Entry). (alone_of p l (car k target s stop.End) n).after) (sym (append-nil xs))
    ∙ (ap (λ (r : Alone). r.after) (by_parts p k target xs [] s n) ∙ on_none p _ _)

abbrev pub car_of : ℕ → Cars → Car
car_of k cs = of_car k cs.first cs.second

car_of_apart : (k : ℕ) (p : List ℕ) (xs : List Entry) (cs : Cars) (n : ℕ) → car_of k (two_of p xs cs n).after ≡ (alone_of p xs (car_of k cs) n).after
car_of_apart zero p xs cs n = ap (λ (r : Two). r.after.first) (by_themselves p xs cs.first cs.second n)
car_of_apart (suc k) p xs cs n = ap (λ (r : Two). r.after.second) (by_themselves p xs cs.first cs.second n)

-- THE ONE-CAR RUN: either car, where it goes on at the start, comes to what the one-car run makes of its own entries
pub as_one_car : (k : ℕ) (p : List ℕ) (xs : List Entry) (cs : Cars) (n : ℕ) → (car_of k cs).why ≡ stop.End →
    let c = car_of k cs in
    car_of k (two_of p xs cs n).after ≡ car_ran c (run_of p c.target (own_of c.number xs) c.current 0)
as_one_car k p xs cs n e =
    let c = car_of k cs in
    let d : c ≡ car c.number c.target c.current stop.End = ap (λ (w : Stop). car c.number c.target c.current w) e in
    car_of_apart k p xs cs n ∙ (ap (λ (v : Car). (alone_of p xs v n).after) d ∙ alone_own p xs c.number c.target c.current n)

-- INDEPENDENCE: two runs of one program, whatever the other car and its entries, in which this car starts alike and has the same entries, leave it alike
pub independent : (k : ℕ) (p : List ℕ) (xs ys : List Entry) (cs ds : Cars) (n m : ℕ) → (car_of k cs).why ≡ stop.End →
    car_of k cs ≡ car_of k ds → own_of (car_of k cs).number xs ≡ own_of (car_of k cs).number ys →
    car_of k (two_of p xs cs n).after ≡ car_of k (two_of p ys ds m).after
independent k p xs ys cs ds n m e f g =
    let d : (car_of k ds).why ≡ stop.End = sym (ap (λ (c : Car). c.why) f) ∙ e in
    let c = car_of k cs in
    as_one_car k p xs cs n e
    ∙ (ap (λ (l : List ℕ). car_ran c (run_of p c.target l c.current 0)) g
    ∙ (ap (λ (v : Car). car_ran v (run_of p v.target (own_of v.number ys) v.current 0)) f ∙ sym (as_one_car k p ys ds m d)))
