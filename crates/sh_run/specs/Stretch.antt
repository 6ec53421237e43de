-- A part of a run: what it leaves is what the run goes on from, or where it stopped at the address.
use Rattle.std.specs.Prelude.{ℕ, ◌-◌, ◌%◌, ◌<◌, ◌≤◌, ◌≡◌, Bool, true, false, List, ltb, eqb, length, drop}
use Rattle.lent.specs.Lent.{pick, at}
use Rattle.sh_state.specs.declared.machine.Machine.{Machine}
use Rattle.sh_state.specs.State.{State, state}
use Rattle.sh_core.specs.declared.Core.{Core}
use Rattle.sh_core.specs.Quick.{core_in}
use Rattle.sh_ticks.specs.Clock.{Quiet, timed_of}
use Rattle.sh_run.specs.declared.stretch.Stretch.{Stretch}
use Rattle.sh_run.specs.declared.Stop.TheVariants as stop
use Rattle.sh_run.specs.Run.{Ran, ran, run_of}

abbrev pub stretched : Machine → ℕ → Bool → Stretch
stretched m n reached = record { machine = m; events = n; reached = reached }

-- PC at the given address; 4,096 and up is none
abbrev pub at_of : ℕ → ℕ → Bool
at_of pc target = pick (ltb target 4096) (eqb pc target) false

-- no read is pending, nothing is due, and Timer0 has room
unfoldable pub quiet_of : Machine → ℕ → ℕ → Bool
quiet_of m due room = pick (eqb m.pending 0) (pick (eqb m.address 0) (pick (eqb due 0) (ltb 0 room) false) false) false

-- a word that no stretch takes, so that none is looked for: a form with AC that names $004, $005 or $01E
unfoldable pub apart_cell : ℕ → Bool
apart_cell a = pick (eqb a 0x04) true (pick (eqb a 0x05) true (eqb a 0x1E))

unfoldable pub apart_of : ℕ → Bool
apart_of w = pick (ltb w 0x4000) (apart_cell (w % 1024)) false

-- n events are done: stopped at the address, or the rest of the script is to be run
unfoldable pub on_of : List ℕ → ℕ → List ℕ → Bool → State → ℕ → Ran
on_of p target script reached s n = pick reached (ran s stop.Address n) (run_of p target (drop n script) s n)

-- from the state s before event `first` to the state t after the events before n
pub record Onward (p : List ℕ) (target : ℕ) (script : List ℕ) (first : ℕ) (s : State) (reached : Bool) (t : State) (n : ℕ) : Type 0 where
  pub same : on_of p target script reached t n ≡ run_of p target (drop first script) s first
  pub from : first ≤ n
  pub to : n ≤ length script

-- and where the next cycle would execute an unlisted word, stopped before it
unfoldable pub passed_of : List ℕ → ℕ → List ℕ → Bool → Bool → State → ℕ → Ran
passed_of p target script stuck reached s n = pick stuck (ran s stop.Unlisted n) (on_of p target script reached s n)

-- from the state s before event `first` to the state t after the events before n: that event, where it was not stuck, and those behind it
pub record Passing (p : List ℕ) (target : ℕ) (script : List ℕ) (first : ℕ) (s : State) (stuck reached : Bool) (t : State) (n : ℕ) : Type 0 where
  pub same : passed_of p target script stuck reached t n ≡ run_of p target (drop first script) s first
  pub on : stuck ≡ false → first < n
  pub to : n ≤ length script

-- the events from `first` on below n are cycles, and n is no further than the end
pub record Cycles (script : List ℕ) (first n end : ℕ) : Type 0 where
  pub from : first ≤ n
  pub to : n ≤ end
  pub only : (k : ℕ) → first ≤ k → k < n → at script k ≡ 0

-- the machine with PC, AC and CY after the clocks of the events before i
abbrev pub before_of : Machine → ℕ → ℕ → Core → List ℕ → ℕ → State
before_of m mode first c l i = state (core_in (timed_of m mode (i - first)) c) l

-- from PC, AC, CY and the memory before event `begin` to those after the events before n, the machine being the same but for Timer0's clocks
pub record Going (p : List ℕ) (target : ℕ) (script : List ℕ) (m : Machine) (mode first end : ℕ) (origin : Core) (l : List ℕ) (begin : ℕ) (reached : Bool) (c : Core) (t : List ℕ) (n : ℕ) : Type 0 where
  pub same : on_of p target script reached (before_of m mode first c t n) n ≡ run_of p target (drop begin script) (before_of m mode first origin l begin) begin
  pub from : begin ≤ n
  pub to : n ≤ end
  pub quiet : Quiet m t mode
