-- A car by itself: once stopped it stays, and its own entries, run as a one-car run takes them, tell what comes of it.
use mathlib.Core.Path.{◌≡◌, refl}
use mathlib.Core.Bool.{true, false}
use mathlib.Core.List.{List, [], ◌∷◌, ◌++◌}
use Prim.Native.Nat.{ℕ, ◌+◌, ◌-◌, ◌<◌}
use native.Mathlib.Omega.{arith}
use lib.Dec.{eqb}
use borrow.Author.Tests.{ne_eqb}
use Rattle.lent.proofs.Laws.{test}
use Rattle.sh_state.specs.State.{State}
use Rattle.sh_events.specs.Event.{event_of}
use Rattle.sh_run.specs.declared.Stop.{Stop}
use Rattle.sh_run.specs.declared.Stop.TheVariants as stop
use Rattle.sh_run.specs.Run.{Ran, reached_of, run_of}
use Rattle.sh_two.specs.Two.{Entry, Car, car, car_ran, stopped_of, taken_of, own_of}
use Rattle.sh_two.specs.Alone.{alone_of, on_of, through_of, read_of}
use Rattle.sh_two.proofs.Runs.{counted_on, reached_counted}

-- an entry of the other car
pub other's : (p : List ℕ) (x : Entry) (c : Car) → eqb x.car c.number ≡ false → taken_of p x c ≡ c
unfolding taken_of
other's p x c f = rw f

-- a stopped car
pub stays : (p : List ℕ) (x : Entry) (c : Car) → stopped_of c.why ≡ true → taken_of p x c ≡ c
unfolding taken_of
stays p x c t = test (eqb x.car c.number) (λ b. rw (b, t)) (λ f. rw f)

-- an entry of a car that goes on
pub takes : (p : List ℕ) (x : Entry) (k target : ℕ) (s : State) → eqb x.car k ≡ true →
    taken_of p x (car k target s stop.End) ≡ car_ran (car k target s stop.End) (run_of p target (x.event ∷ []) s 0)
unfolding taken_of stopped_of
takes p x k target s t = rw t

-- one entry more of a part
read_other : (k : ℕ) (x : Entry) (part : List Entry) (why : Stop) (n : ℕ) → eqb x.car k ≡ false → (why ≡ stop.Address → 0 < n) → read_of k (x ∷ part) why n ≡ read_of k part why n + 1
unfolding read_of through_of
read_other k x part stop.Address n f h = rw (f, ne_eqb n 0 (λ e. absurd (omega (arith, h refl, e))))
read_other k x part stop.Unlisted n f h = rw (f, ne_eqb (n + 1) 0 (λ e. absurd (omega arith)))
read_other k x part stop.End n f h = omega arith

read_own : (k : ℕ) (x : Entry) (part : List Entry) (why : Stop) (n : ℕ) → eqb x.car k ≡ true → read_of k (x ∷ part) why (n + 1) ≡ read_of k part why n + 1
unfolding read_of through_of
read_own k x part stop.Address n t =
    let e : n + 1 - 1 ≡ n = omega arith in
    rw (t, ne_eqb (n + 1) 0 (λ e. absurd (omega arith)), e)
read_own k x part stop.Unlisted n t =
    let e : n + 1 + 1 - 1 ≡ n + 1 = omega arith in
    rw (t, ne_eqb (n + 1 + 1) 0 (λ e. absurd (omega arith)), e)
read_own k x part stop.End n t = omega arith

pub through_none : (k : ℕ) (part : List Entry) {j : ℕ} → j ≡ 0 → through_of k part j ≡ 0
unfolding through_of
through_none k [] e = refl
through_none k (x ∷ part) e = rw e

-- A part of the entries, and then the rest: a car that goes on is run over its own of the part, and has stopped there or goes on with the rest.
module _ (p : List ℕ) (k target : ℕ) where
  abbrev going : State → Car
  going s = car k target s stop.End

  abbrev ran_over : List Entry → State → Ran
  ran_over part s = run_of p target (own_of k part) s 0

  abbrev Parts : List Entry → List Entry → State → ℕ → Ran → Type 0
  Parts part rest s n r = alone_of p (part ++ rest) (going s) n ≡ on_of p rest (car_ran (going s) r) (n + read_of k part r.why r.events)

  -- the first entry is another's
  skipped : (x : Entry) (part rest : List Entry) (s : State) (n : ℕ) → eqb x.car k ≡ false → Parts part rest s (n + 1) (ran_over part s) → Parts (x ∷ part) rest s n (ran_over (x ∷ part) s)
  unfolding alone_of own_of stopped_of
  skipped x part rest s n f h =
      let r = ran_over part s in
      let e : n + read_of k (x ∷ part) r.why r.events ≡ n + 1 + read_of k part r.why r.events = omega (arith, read_other k x part r.why r.events f (reached_counted p target (own_of k part) s 0)) in
      rw (f, other's p x (going s) f, e) h

  taken_on : (x : Entry) (part rest : List Entry) (s : State) (n : ℕ) → eqb x.car k ≡ true → Parts part rest (event_of p s x.event).after (n + 1) (ran_over part (event_of p s x.event).after) →
      alone_of p (part ++ rest) (going (event_of p s x.event).after) (n + 1)
      ≡ on_of p rest (car_ran (going s) (run_of p target (own_of k part) (event_of p s x.event).after (0 + 1))) (n + read_of k (x ∷ part) (run_of p target (own_of k part) (event_of p s x.event).after (0 + 1)).why (run_of p target (own_of k part) (event_of p s x.event).after (0 + 1)).events)
  taken_on x part rest s n t h =
      let r = ran_over part (event_of p s x.event).after in
      let e : n + read_of k (x ∷ part) r.why (r.events + 1) ≡ n + 1 + read_of k part r.why r.events = omega (arith, read_own k x part r.why r.events t) in
      rw (counted_on p target (own_of k part) (event_of p s x.event).after 0, e) h

  -- the first entry is the car's: it stops it, or the rest of the part is its own again
  taken : (x : Entry) (part rest : List Entry) (s : State) (n : ℕ) → eqb x.car k ≡ true → Parts part rest (event_of p s x.event).after (n + 1) (ran_over part (event_of p s x.event).after) → Parts (x ∷ part) rest s n (ran_over (x ∷ part) s)
  unfolding alone_of own_of run_of on_of stopped_of read_of through_of
  taken x part rest s n t h =
      rw (t, takes p x k target s t)
      (test (event_of p s x.event).stuck (λ b. rw (b, t, through_none k part refl))
      (λ f. test (reached_of (event_of p s x.event).after.machine x.event target) (λ b. rw (f, b, t, through_none k part refl))
      (λ g. rw (f, g) (taken_on x part rest s n t h))))

  pub by_parts : (part rest : List Entry) (s : State) (n : ℕ) → Parts part rest s n (ran_over part s)
  unfolding own_of run_of on_of stopped_of read_of
  by_parts [] rest s n = let e : n + 0 ≡ n = omega arith in rw e
  by_parts (x ∷ part) rest s n =
      test (eqb x.car k) (λ t. taken x part rest s n t (by_parts part rest _ (n + 1))) (λ f. skipped x part rest s n f (by_parts part rest s (n + 1)))
