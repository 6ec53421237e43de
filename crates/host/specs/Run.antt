-- run, for C (01, "What is lent", "A run stops .."): as step, and its reason and how many events were done; these two outs keep what stood there where there is nothing to tell.
use Rattle.std.specs.Prelude.{ℕ, List, eqb, length}
use Rattle.lent.specs.Lent.{pick}
use Rattle.refusal.specs.declared.Refusal.TheVariants.{ProgramLength}
use Rattle.refusal.specs.Told.{refused_told}
use Rattle.sh_state.specs.State.{state}
use Rattle.call_run.specs.Run.{RunAnswered, run_call_of, Stopped, stopped, reason_told}
use Rattle.wire.specs.Record.{record_of, bytes_of}
use Rattle.wire.specs.Words.{words_of}
use Rattle.host.specs.Told.{short_told}

pub record Ran : Type 0 where
  pub stop : Stopped
  pub memory : List ℕ
  pub bytes : List ℕ

abbrev pub ran : Stopped → List ℕ → List ℕ → Ran
ran s l b = record { stop = s; memory = l; bytes = b }

unfoldable pub run_told : RunAnswered → ℕ → ℕ → Ran
run_told a reason events =
    ran (reason_told a.reason a.events reason events) a.after.memory (bytes_of a.after.machine)

-- "another length is 1, told in bytes"
unfoldable pub host_run_of : List ℕ → List ℕ → List ℕ → List ℕ → ℕ → ℕ → ℕ → Ran
host_run_of body l b script stop reason events =
    pick (eqb (length body) 8192)
    (pick (eqb (length b) 45)
    (run_told (run_call_of (words_of body 4096) (state (record_of b) l) script stop) reason events)
    (ran (stopped (short_told l) reason events) l b))
    (ran (stopped (refused_told (ProgramLength (length body))) reason events) l b)
