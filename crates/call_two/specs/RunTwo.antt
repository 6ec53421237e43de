-- The run of two cars as a call (02, P5): the refusals before anything moves, "at equal numbers car 0 first", then the run and both pictures.
use Rattle.std.specs.Prelude.{ℕ, ◌/◌, List, ltb, eqb, length, Err, Ok, Result}
use Rattle.lent.specs.Lent.{pick, fails_from}
use Rattle.refusal.specs.declared.Refusal.{Refusal}
use Rattle.refusal.specs.declared.Refusal.TheVariants as refusal
use Rattle.refusal.specs.Refusal.{number_of}
use Rattle.refusal.specs.Told.{Said, done_told, refused_told}
use Rattle.sh_state.specs.State.{State}
use Rattle.sh_rules.specs.Judge.{first_of, state_judged}
use Rattle.body.specs.Body.{told, wiring_judged}
use Rattle.picture.specs.Picture.{picture_of}
use Rattle.sh_run.specs.declared.Stop.{Stop}
use Rattle.sh_run.specs.Run.{stop_number}
use Rattle.sh_two.specs.Two as sh
use Rattle.call_two.specs.Script.{event_fits, car_fits, events_judged, cars_judged, cut_judged}
use Rattle.call_two.specs.declared.Ended.{Ended}

-- what is lent for a car: its machine and memory, and the room of its picture
pub record Lent : Type 0 where
  pub current : State
  pub room : List ℕ

abbrev pub lent : State → List ℕ → Lent
lent s room = record { current = s; room = room }

-- of two cars' refusals the lower number, and at equal numbers car 0's
unfoldable pub lower_of : Refusal → Refusal → Result (Unit {0}) Refusal
lower_of v w = pick (ltb (number_of w) (number_of v)) (Err w) (Err v)

unfoldable pub lowest_of : Result (Unit {0}) Refusal → Result (Unit {0}) Refusal → Result (Unit {0}) Refusal
lowest_of (Ok tt) b = b
lowest_of (Err v) (Ok tt) = Err v
lowest_of (Err v) (Err w) = lower_of v w

-- 1: program not 4,096 words; 2, 3, 4 of both cars
unfoldable pub cars_lent_judged : List ℕ → State → State → Result (Unit {0}) Refusal
cars_lent_judged p s t =
    first_of (told (eqb (length p) 4096) (refusal.ProgramLength (length p))) (lowest_of (state_judged s) (state_judged t))

-- 5, 10, 11, 27, 28
unfoldable pub script_judged : List ℕ → List ℕ → Result (Unit {0}) Refusal
script_judged wiring script =
    first_of (events_judged (fails_from event_fits script 0))
    (first_of (wiring_judged wiring) (first_of (cars_judged (fails_from car_fits script 0)) (cut_judged script)))

-- 7: room for one byte for each element
unfoldable pub room_judged : List ℕ → List ℕ → Result (Unit {0}) Refusal
room_judged wiring room = pick (ltb (length room) (length wiring / 3)) (Err (refusal.Room (length wiring / 3))) (Ok tt)

unfoldable pub two_judged : List ℕ → List ℕ → Lent → Lent → List ℕ → Result (Unit {0}) Refusal
two_judged p wiring a b script =
    first_of (cars_lent_judged p a.current b.current)
    (first_of (script_judged wiring script) (first_of (room_judged wiring a.room) (room_judged wiring b.room)))

pub record Answered : Type 0 where
  pub outcome : Result Ended Refusal
  pub first : Lent
  pub second : Lent

abbrev pub answered : Result Ended Refusal → Lent → Lent → Answered
answered o a b = record { outcome = o; first = a; second = b }

-- a car as the run leaves it, and its picture as the picture call gives it
unfoldable pub left_of : List ℕ → sh.Car → List ℕ → Lent
left_of wiring c room = lent c.current (picture_of c.current wiring room).room

-- why each car stopped, and how many entries were read
abbrev pub ended : Stop → Stop → ℕ → Ended
ended v w n = record { first = v; second = w; entries = n }

unfoldable pub both_left_of : List ℕ → sh.Two → List ℕ → List ℕ → Answered
both_left_of wiring r room room1 =
    answered (Ok (ended r.after.first.why r.after.second.why r.entries))
    (left_of wiring r.after.first room) (left_of wiring r.after.second room1)

unfoldable pub ran_of : List ℕ → List ℕ → Lent → ℕ → Lent → ℕ → List ℕ → Result (Unit {0}) Refusal → Answered
ran_of p wiring a stop b stop1 script (Ok tt) =
    both_left_of wiring (sh.two_of p (sh.entries_of script) (sh.start_of stop a.current stop1 b.current) 0) a.room b.room
ran_of p wiring a stop b stop1 script (Err why) = answered (Err why) a b

-- THE RUN OF TWO CARS: what it answers, and what it leaves each car with
unfoldable pub run_two_of : List ℕ → List ℕ → Lent → ℕ → Lent → ℕ → List ℕ → Answered
run_two_of p wiring a stop b stop1 script = ran_of p wiring a stop b stop1 script (two_judged p wiring a b script)

-- what is told of it: why each car stopped, and how many entries were read; a refusal leaves what stood there
pub record Outs : Type 0 where
  pub told : Said
  pub reason : ℕ
  pub reason1 : ℕ
  pub entries : ℕ

abbrev pub outs : Said → ℕ → ℕ → ℕ → Outs
outs t reason reason1 entries = record { told = t; reason = reason; reason1 = reason1; entries = entries }

unfoldable pub outs_of : Result Ended Refusal → ℕ → ℕ → ℕ → Outs
outs_of (Ok e) reason reason1 entries = outs done_told (stop_number e.first) (stop_number e.second) e.entries
outs_of (Err why) reason reason1 entries = outs (refused_told why) reason reason1 entries
