-- The call run: 1 to 5 before anything moves, 5 over the whole script; else the run (01, "A run stops ..").
use Rattle.std.specs.Prelude.{ℕ, Bool, true, List, [], ◌∷◌, eqb, length, Err, None, Ok, Option, Result, Some}
use Rattle.lent.specs.Lent.{pick, both, fails_from}
use Rattle.refusal.specs.declared.Refusal.{Refusal}
use Rattle.refusal.specs.declared.Refusal.TheVariants.{ProgramLength, UnknownEvent, UnlistedWord}
use Rattle.refusal.specs.Refusal.{number_of}
use Rattle.refusal.specs.Told.{Said, done_told, refused_told}
use Rattle.sh_state.specs.State.{State}
use Rattle.sh_state.specs.declared.machine.Machine.{Machine}
use Rattle.sh_rules.specs.Judge.{state_judged}
use Rattle.sh_known.specs.Known.{known_of}
use Rattle.sh_run.specs.declared.Stop.{Stop}
use Rattle.sh_run.specs.Run.{Ran, run_of, stop_number}
use Rattle.call_run.specs.declared.Reached.{Reached}

-- what a run answers: why it stopped, or the refusal, and how many events were done
pub record RunAnswered : Type 0 where
  pub reason : Result Reached Refusal
  pub events : ℕ
  pub after : State

abbrev pub run_answered : Result Reached Refusal → ℕ → State → RunAnswered
run_answered r n s = record { reason = r; events = n; after = s }

abbrev pub run_refused : Refusal → State → RunAnswered
run_refused why s = run_answered (Err why) 0 s

-- why a run stopped; before an unlisted word is refusal 6, with the word's address
unfoldable pub reason_of : Stop → Machine → Result Reached Refusal
reason_of Stop.Address m = (Ok Reached.Address)
reason_of Stop.Unlisted m = Err (UnlistedWord m.pc)
reason_of Stop.End m = (Ok Reached.End)

unfoldable pub run_told_of : Ran → RunAnswered
run_told_of r = run_answered (reason_of r.why r.after.machine) r.events r.after

-- the first place, from i on, of a byte that is no event
abbrev pub unknown_from : List ℕ → ℕ → Option ℕ
unknown_from script i = fails_from (λ _ e. known_of e) script i

-- whether every byte is an event
unfoldable pub all_known_of : List ℕ → Bool
all_known_of [] = true
all_known_of (e ∷ script) = both (known_of e) (all_known_of script)

-- 5: unknown event
unfoldable pub run_found_of : List ℕ → State → List ℕ → ℕ → Option ℕ → RunAnswered
run_found_of p s script target (Some i) = run_refused (UnknownEvent i) s
run_found_of p s script target None = run_told_of (run_of p target script s 0)

-- 2, 3, 4: the memory, its cells, the record
unfoldable pub run_judged_of : List ℕ → State → List ℕ → ℕ → Result (Unit {0}) Refusal → RunAnswered
run_judged_of p s script target (Ok tt) = run_found_of p s script target (unknown_from script 0)
run_judged_of p s script target (Err why) = run_refused why s

-- 1: program not 4,096 words
unfoldable pub run_call_of : List ℕ → State → List ℕ → ℕ → RunAnswered
run_call_of p s script target =
    pick (eqb (length p) 4096) (run_judged_of p s script target (state_judged s)) (run_refused (ProgramLength (length p)) s)

-- what is told of a run: the number and its value, the reason, and how many events were done
pub record Stopped : Type 0 where
  pub told : Said
  pub reason : ℕ
  pub events : ℕ

abbrev pub stopped : Said → ℕ → ℕ → Stopped
stopped t reason events = record { told = t; reason = reason; events = events }

-- of the refusals 6 alone tells a reason and a count; the others leave what stood there
unfoldable pub refused_by : Refusal → ℕ → ℕ → ℕ → Stopped
refused_by why n reason events =
    pick (eqb (number_of why) 6) (stopped (refused_told why) (stop_number Stop.Unlisted) n) (stopped (refused_told why) reason events)

unfoldable pub reason_told : Result Reached Refusal → ℕ → ℕ → ℕ → Stopped
reason_told (Ok Reached.Address) n reason events = stopped done_told (stop_number Stop.Address) n
reason_told (Ok Reached.End) n reason events = stopped done_told (stop_number Stop.End) n
reason_told (Err why) n reason events = refused_by why n reason events
