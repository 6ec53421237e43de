-- A run: the events of a script, one after the other, and why it stops (01, "A run stops ..").
use Rattle.std.specs.Prelude.{ℕ, ◌+◌, Bool, false, List, [], ◌∷◌, ltb, eqb}
use Rattle.lent.specs.Lent.{pick}
use Rattle.sh_state.specs.declared.machine.Machine.{Machine}
use Rattle.sh_state.specs.State.{State}
use Rattle.sh_events.specs.Event.{event_of}
use Rattle.sh_run.specs.declared.Stop.{Stop}
use Rattle.sh_run.specs.declared.Stop.TheVariants as stop

-- the state that a run leaves, why it stopped, and how many events were done
pub record Ran : Type 0 where
  pub after : State
  pub why : Stop
  pub events : ℕ

abbrev pub ran : State → Stop → ℕ → Ran
ran s why n = record { after = s; why = why; events = n }

-- a cycle that left PC at the given address; 4,096 and up is none
unfoldable pub reached_of : Machine → ℕ → ℕ → Bool
reached_of m e target = pick (eqb e 0x00) (pick (ltb target 4096) (eqb m.pc target) false) false

-- after the first cycle that leaves PC at the address, before an unlisted word, or at the script's end; n events were done before
unfoldable pub run_of : List ℕ → ℕ → List ℕ → State → ℕ → Ran
run_of p target [] s n = ran s stop.End n
run_of p target (e ∷ script) s n =
    pick (event_of p s e).stuck (ran (event_of p s e).after stop.Unlisted n)
    (pick (reached_of (event_of p s e).after.machine e target)
    (ran (event_of p s e).after stop.Address (n + 1))
    (run_of p target script (event_of p s e).after (n + 1)))

-- the paper's reasons in their order: "after the first cycle that leaves PC at a given address .., before an unlisted word, or at the script's end"
abbrev pub stop_number : Stop → ℕ
stop_number stop.Address = 0
stop_number stop.Unlisted = 1
stop_number stop.End = 2
