-- An event that is stuck before an unlisted word has changed nothing: only the cycle can be.
use mathlib.Core.List.{List}
use Prim.Native.Nat.{ℕ}
use lib.Dec.{eqb}
use Rattle.lent.proofs.Laws.{by_choice}
use Rattle.sh_state.specs.State.{State}
use Rattle.sh_cycle.proofs.Stuck.{Stuck, not_stuck, cycle_stuck}
use Rattle.sh_events.specs.Event.{event_of}

pub event_stuck : (p : List ℕ) (s : State) (e : ℕ) → Stuck s (event_of p s e)
unfolding event_of
event_stuck p s e = by_choice (Stuck s) (eqb e 0x00) _ _ (cycle_stuck p s) not_stuck
