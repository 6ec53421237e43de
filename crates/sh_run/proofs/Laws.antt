-- The run from event i on, as its loop finds it: h is what the event did, b whether PC is at the target.
use mathlib.Core.Path.{◌≡◌, ◌∙◌}
use mathlib.Core.Bool.{Bool, true, false}
use mathlib.Core.List.{List, []}
use Prim.Native.Nat.{ℕ, ◌+◌, ◌<◌, ◌≤◌}
use lib.ListN.{length, drop, drop_of_length-le}
use Rattle.lent.specs.Lent.{at}
use Rattle.lent.proofs.Laws.{drop_more}
use Rattle.sh_state.specs.State.{State}
use Rattle.sh_cycle.specs.Cycle.{Happened}
use Rattle.sh_events.specs.Event.{event_of}
use Rattle.sh_run.specs.declared.Stop.TheVariants as stop
use Rattle.sh_run.specs.Run.{ran, reached_of, run_of}

module _ (p : List ℕ) (target : ℕ) (script : List ℕ) (s : State) (i : ℕ) where
  pub run_end : length script ≤ i → ran s stop.End i ≡ run_of p target (drop i script) s i
  unfolding run_of
  run_end h = rw (drop_of_length-le script h)

  module _ (lt : i < length script) (h : Happened) (e : h ≡ event_of p s (at script i)) where
    pub run_stuck : h.stuck ≡ true → ran h.after stop.Unlisted i ≡ run_of p target (drop i script) s i
    unfolding run_of
    run_stuck b = rw (drop_more script i lt, ← e, b)

    module _ (f : h.stuck ≡ false) (b : Bool) (r : b ≡ reached_of h.after.machine (at script i) target) where
      pub run_at : b ≡ true → ran h.after stop.Address (i + 1) ≡ run_of p target (drop i script) s i
      unfolding run_of
      run_at t = rw (drop_more script i lt, ← e, f, ← r, t)

      pub run_on : b ≡ false → run_of p target (drop (i + 1) script) h.after (i + 1) ≡ run_of p target (drop i script) s i
      unfolding run_of
      run_on t = rw (drop_more script i lt, ← e, f, ← r, t)
