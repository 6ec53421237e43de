-- Two cars over one program (02, P5): what the entries of a script make of each, and how many are read.
use Rattle.std.specs.Prelude.{ℕ, zero, suc, ◌+◌, Bool, true, false, not, List, [], ◌∷◌, eqb}
use Rattle.lent.specs.Lent.{pick, both}
use Rattle.sh_state.specs.State.{State}
use Rattle.sh_run.specs.declared.Stop.{Stop}
use Rattle.sh_run.specs.declared.Stop.TheVariants as stop
use Rattle.sh_run.specs.Run.{Ran, run_of}

-- "Each script entry becomes two bytes, the car (0 or 1) and then the event"
pub record Entry : Type 0 where
  pub car : ℕ
  pub event : ℕ

abbrev pub entry : ℕ → ℕ → Entry
entry c e = record { car = c; event = e }

-- a script cut into entries from the front; a lone byte at its end is none
unfoldable pub entries_of : List ℕ → List Entry
entries_of [] = []
entries_of (c ∷ []) = []
entries_of (c ∷ e ∷ script) = entry c e ∷ entries_of script

-- a car: its number, its stop address, its machine and memory, and why it stopped; as long as it goes on, that is the script's end
pub record Car : Type 0 where
  pub number : ℕ
  pub target : ℕ
  pub current : State
  pub why : Stop

abbrev pub car : ℕ → ℕ → State → Stop → Car
car k target s why = record { number = k; target = target; current = s; why = why }

-- what a run leaves a car with
abbrev pub car_ran : Car → Ran → Car
car_ran c r = car c.number c.target r.after r.why

-- "A car that meets an unlisted word or its stop address"
unfoldable pub stopped_of : Stop → Bool
stopped_of stop.Address = true
stopped_of stop.Unlisted = true
stopped_of stop.End = false

-- a car that goes on takes an entry of its own as the run of that one event; a stopped one "takes no more entries"
unfoldable pub taken_of : List ℕ → Entry → Car → Car
taken_of p x c =
    pick (both (eqb x.car c.number) (not (stopped_of c.why)))
    (car_ran c (run_of p c.target (x.event ∷ []) c.current 0)) c

pub record Cars : Type 0 where
  pub first : Car
  pub second : Car

abbrev pub cars : Car → Car → Cars
cars a b = record { first = a; second = b }

-- what is one of two cars', of car 0 or of car 1
abbrev pub of_car : {A : Type 0} → ℕ → A → A → A
of_car zero a b = a
of_car (suc k) a b = b

-- both go on, as cars 0 and 1
abbrev pub start_of : ℕ → State → ℕ → State → Cars
start_of target s target1 s1 = cars (car 0 target s stop.End) (car 1 target1 s1 stop.End)

unfoldable pub passed_of : List ℕ → Entry → Cars → Cars
passed_of p x cs = cars (taken_of p x cs.first) (taken_of p x cs.second)

unfoldable pub ended_of : Cars → Bool
ended_of cs = both (stopped_of cs.first.why) (stopped_of cs.second.why)

-- the cars as a run leaves them, and how many entries it has read
pub record Two : Type 0 where
  pub after : Cars
  pub entries : ℕ

abbrev pub two : Cars → ℕ → Two
two cs n = record { after = cs; entries = n }

-- "the run ends when both have met one or the script ends"; n entries were read before
unfoldable pub two_of : List ℕ → List Entry → Cars → ℕ → Two
two_of p [] cs n = two cs n
two_of p (x ∷ entries) cs n =
    pick (ended_of (passed_of p x cs)) (two (passed_of p x cs) (n + 1)) (two_of p entries (passed_of p x cs) (n + 1))

-- the entries of a car, "in order", by their events
unfoldable pub own_of : ℕ → List Entry → List ℕ
own_of k [] = []
own_of k (x ∷ entries) = pick (eqb x.car k) (x.event ∷ own_of k entries) (own_of k entries)
