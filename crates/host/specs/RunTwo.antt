-- the run of two cars, for C (02, P5; 01, "What is lent"): as run, with both cars' memories, records and pictures; the outs keep what stood there where it is refused.
use Rattle.std.specs.Prelude.{ℕ, List, eqb, length, Err, Result}
use Rattle.lent.specs.Lent.{pick, both}
use Rattle.refusal.specs.declared.Refusal.{Refusal}
use Rattle.refusal.specs.Told.{Said, refused_told}
use Rattle.sh_state.specs.State.{state}
use Rattle.sh_rules.specs.Judge.{first_of, memory_judged, state_judged, judged_told}
use Rattle.call_two.specs.RunTwo.{Lent, lent, lowest_of, Answered, run_two_of, Outs, outs, outs_of}
use Rattle.wire.specs.Record.{record_of, bytes_of}
use Rattle.wire.specs.Words.{words_of}

-- what C lends for a car
pub record CarBytes : Type 0 where
  pub memory : List ℕ
  pub bytes : List ℕ
  pub room : List ℕ

abbrev pub car_bytes : List ℕ → List ℕ → List ℕ → CarBytes
car_bytes l b o = record { memory = l; bytes = b; room = o }

pub record TwoRan : Type 0 where
  pub said : Outs
  pub first : CarBytes
  pub second : CarBytes

abbrev pub two_ran : Outs → CarBytes → CarBytes → TwoRan
two_ran o a b = record { said = o; first = a; second = b }

-- a car's bytes as a machine, its memory and its room; and back
abbrev pub read_car : CarBytes → Lent
read_car a = lent (state (record_of a.bytes) a.memory) a.room

abbrev pub written_car : Lent → CarBytes
written_car a = car_bytes a.current.memory (bytes_of a.current.machine) a.room

unfoldable pub two_told : Answered → ℕ → ℕ → ℕ → TwoRan
two_told a reason reason1 entries =
    two_ran (outs_of a.outcome reason reason1 entries) (written_car a.first) (written_car a.second)

-- 2, 3, 4 of a car; a record of another length than 45 bytes is 4, and 2 and 3 come before it
unfoldable pub short_judged : List ℕ → Result (Unit {0}) Refusal
short_judged l = first_of (memory_judged l) (Err Refusal.Record)

unfoldable pub car_judged : List ℕ → List ℕ → Result (Unit {0}) Refusal
car_judged l b = pick (eqb (length b) 45) (state_judged (state (record_of b) l)) (short_judged l)

-- where a record is not 45 bytes, one of the two is turned down
unfoldable pub short_two : List ℕ → List ℕ → List ℕ → List ℕ → Said
short_two l b l1 b1 = judged_told (lowest_of (car_judged l b) (car_judged l1 b1))

-- "another length is 1, told in bytes"
unfoldable pub host_run_two_of : List ℕ → List ℕ → CarBytes → CarBytes → List ℕ → ℕ → ℕ → ℕ → ℕ → ℕ → TwoRan
host_run_two_of body wiring a b script stop stop1 reason reason1 entries =
    pick (eqb (length body) 8192)
    (pick (both (eqb (length a.bytes) 45) (eqb (length b.bytes) 45))
    (two_told (run_two_of (words_of body 4096) wiring (read_car a) stop (read_car b) stop1 script) reason reason1 entries)
    (two_ran (outs (short_two a.memory a.bytes b.memory b.bytes) reason reason1 entries) a b))
    (two_ran (outs (refused_told (Refusal.ProgramLength (length body))) reason reason1 entries) a b)
