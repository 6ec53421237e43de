-- (d) and (e) by the pending read alone, of all that the machine was before.
use Rattle.std.specs.Prelude.{ℕ, true, false, List, eqb}
use Rattle.lent.specs.Lent.{pick, at}
use Rattle.sh_state.specs.State.{State, state}
use Rattle.sh_cycle.specs.declared.cycle.Acted.{Acted}
use Rattle.sh_cycle.specs.declared.cycle.Acted.TheVariants.{Stuck, Still, Ends}
use Rattle.sh_cycle.specs.Cycle.{Happened, happened, word_in_of, clock_of}

unfoldable pub landed_by : List ℕ → ℕ → ℕ → List ℕ → List ℕ
landed_by p pending address l = pick (eqb pending 1) (word_in_of l (at p address)) l

unfoldable pub finished_by : List ℕ → ℕ → ℕ → State → State
finished_by p pending address s = clock_of (state s.machine (landed_by p pending address s.memory))

-- the outcome of a cycle, by what it did before (d) and (e) on a state whose memory it left so
unfoldable pub ended_by : List ℕ → ℕ → ℕ → Acted → State → Happened
ended_by p pending address Stuck s = happened true s
ended_by p pending address (Still m) s = happened false (state m s.memory)
ended_by p pending address (Ends m) s = happened false (finished_by p pending address (state m s.memory))
