-- A part of the entries, as the run finds it: the car has stopped there, or goes on behind it.
use mathlib.Core.Path.{◌≡◌, ◌∙◌, refl, ap, sym}
use mathlib.Core.Bool.{Bool, true, false}
use mathlib.Core.List.{List}
use Prim.Native.Nat.{ℕ, ◌+◌, ◌-◌, ◌/◌, ◌<◌, ◌≤◌}
use native.Mathlib.Omega.{arith}
use lib.ListN.{length}
use Rattle.lent.proofs.Laws.{test, never}
use Rattle.sh_state.specs.State.{State}
use Rattle.sh_run.specs.declared.Stop.{Stop}
use Rattle.sh_run.specs.declared.Stop.TheVariants as stop
use Rattle.sh_run.specs.Run.{Ran, run_of}
use Rattle.sh_two.specs.Two.{Entry, Car, car, car_ran, stopped_of, own_of}
use Rattle.sh_two.specs.Alone.{alone, alone_of, on_of, from, part_of, read_of, Parted}
use Rattle.sh_two.proofs.ByItself.{by_parts}
use Rattle.sh_two.proofs.Parts.{part_length, part_rest, from_end}

pub read_at : {v w : Stop} {r : ℕ} (k : ℕ) (part : List Entry) (n : ℕ) → v ≡ w → r ≡ read_of k part w n → r ≡ read_of k part v n
read_at k part n e h = h ∙ sym (ap (λ (u : Stop). read_of k part u n) e)

-- where the car goes on, the part is read whole
read_whole : (k : ℕ) (part : List Entry) (why : Stop) (n : ℕ) → stopped_of why ≡ false → read_of k part why n ≡ length part
unfolding read_of stopped_of
read_whole k part stop.Address n f = never (sym f)
read_whole k part stop.Unlisted n f = never (sym f)
read_whole k part stop.End n f = refl

-- a stopped car looks at no entry more
on_stopped : (p : List ℕ) (xs : List Entry) (c : Car) (n : ℕ) → stopped_of c.why ≡ true → on_of p xs c n ≡ alone c n
unfolding on_of
on_stopped p xs c n t = rw t

on_going : (p : List ℕ) (xs : List Entry) (c : Car) (n : ℕ) → stopped_of c.why ≡ false → on_of p xs c n ≡ alone_of p xs c n
unfolding on_of
on_going p xs c n f = rw f

module _ (p script : List ℕ) (k target first end : ℕ) (s : State) (a : first < end) (b : end ≤ length script / 2) where
  abbrev begun : Car
  begun = car k target s stop.End

  abbrev part : List Entry
  part = part_of script first end

  module _ (events : List ℕ) (g : events ≡ own_of k part) (r : Ran) (h : r ≡ run_of p target events s 0) (n : ℕ) (f : n ≡ first + read_of k part r.why r.events) where
    own_run : r ≡ run_of p target (own_of k part) s 0
    own_run = h ∙ ap (λ (l : List ℕ). run_of p target l s 0) g

    read_on : stopped_of r.why ≡ false → n ≡ end
    read_on u = omega (arith, f, read_whole k part r.why r.events u, part_length script first end (omega arith) (omega arith))

    behind : on_of p (from script n) (car_ran begun r) n ≡ on_of p (from script end) (car_ran begun r) n
    behind =
        test (stopped_of r.why) (λ t. on_stopped p _ (car_ran begun r) n t ∙ sym (on_stopped p _ (car_ran begun r) n t))
        (λ u. ap (λ (i : ℕ). on_of p (from script i) (car_ran begun r) n) (read_on u))

    pub parted : Parted p script begun first (car_ran begun r) n
    parted =
        record {
          same =
              behind
              ∙ (ap (λ (i : ℕ). on_of p (from script end) (car_ran begun r) i) f
              ∙ (ap (λ (v : Ran). on_of p (from script end) (car_ran begun v) (first + read_of k part v.why v.events)) own_run
              ∙ (sym (by_parts p k target part (from script end) s first)
              ∙ ap (λ (l : List Entry). alone_of p l begun first) (sym (part_rest script first end (omega arith) (omega arith))))));
          on = λ u. (omega (arith, read_on u), omega (arith, read_on u));
        }

-- a car that is not stopped goes on
goes_on : (why : Stop) → stopped_of why ≡ false → why ≡ stop.End
unfolding stopped_of
goes_on stop.Address f = never (sym f)
goes_on stop.Unlisted f = never (sym f)
goes_on stop.End f = refl

-- How the car goes on behind a part.
module _ {p script : List ℕ} {c : Car} {first n k target : ℕ} {s : State} {why : Stop} {b : Bool} (o : Parted p script c first (car k target s why) n) (e : b ≡ stopped_of why) where
  pub parted_stopped : b ≡ true → alone (car k target s why) n ≡ alone_of p (from script first) c first
  parted_stopped t = sym (on_stopped p _ (car k target s why) n (sym e ∙ t)) ∙ o.same

  pub parted_upto : b ≡ false → (first < n) × (n ≤ length script / 2)
  parted_upto f = o.on (sym e ∙ f)

  pub parted_on : b ≡ false → alone_of p (from script n) (car k target s stop.End) n ≡ alone_of p (from script first) c first
  parted_on f =
      ap (λ (w : Stop). alone_of p (from script n) (car k target s w) n) (sym (goes_on why (sym e ∙ f)))
      ∙ (sym (on_going p _ (car k target s why) n (sym e ∙ f)) ∙ o.same)

-- no entry is left
pub alone_end : (p script : List ℕ) (c : Car) (i : ℕ) → length script / 2 ≤ i → alone c i ≡ alone_of p (from script i) c i
unfolding alone_of
alone_end p script c i h = rw (from_end script i h)
