-- What the pending read and Timer0's own part leave is what the definitions say of the whole record.
use Rattle.std.specs.Prelude.{Ok, Result}
use mathlib.Core.Path.{◌≡◌, ◌∙◌, refl, ap}
use mathlib.Core.Bool.{false}
use mathlib.Core.List.{List}
use Prim.Native.Nat.{ℕ}
use Rattle.lent.specs.Lent.{at}
use Rattle.word.specs.declared.Instruction.{Instruction}
use Rattle.sh_state.specs.declared.machine.Machine.{Machine}
use Rattle.sh_state.specs.State.{State, state}
use Rattle.sh_timers.specs.declared.timer0.Tick.{Tick}
use Rattle.sh_timers.specs.Request.{requested_of}
use Rattle.sh_timers.specs.Ticked.{ticked_of, time_set_of}
use Rattle.sh_timers.proofs.Ticked.{clock_ticks}
use Rattle.sh_interrupts.specs.Interrupt.{interrupted_of}
use Rattle.sh_execute.specs.Execute.{execute_of}
use Rattle.sh_cycle.specs.Cycle.{happened, moved_of, woken_of, landed_of, clock_of, finished_of, executed_of, instructed_of, interrupt_cycle_of}
use Rattle.sh_cycle.specs.declared.cycle.Acted.TheVariants.{Ends}
use Rattle.sh_cycle.specs.Read.{landed_by, finished_by, ended_by}
use Rattle.refusal.specs.declared.Refusal.{Refusal}

pub clock_by : (m : Machine) (l k : List ℕ) (mode : ℕ) (t : Tick) (n : Machine) → mode ≡ at l 0x02 → t ≡ ticked_of m.prescaler m.counter m.load mode → k ≡ requested_of l t.requests → n ≡ time_set_of m t.prescaler t.counter
    → state n k ≡ clock_of (state m l)
unfolding clock_of
clock_by m l k mode t n e f g h =
    let u : t ≡ ticked_of m.prescaler m.counter m.load (at l 0x02) = f ∙ ap (ticked_of m.prescaler m.counter m.load) e in
    rw (g, h, u) (ap (moved_of l) (clock_ticks m (at l 0x02)))

finished_by_lem : (p : List ℕ) (m : Machine) (s : State) → finished_by p m.pending m.address s ≡ finished_of p m s
unfolding finished_by finished_of landed_by landed_of
finished_by_lem p m s = refl

-- a cycle that ends in (d) and (e)
pub ends : (p : List ℕ) (m : Machine) {n : Machine} {l : List ℕ} {t : State} → state n l ≡ t → ended_by p m.pending m.address (Ends n) (state m l) ≡ happened false (finished_of p m t)
unfolding ended_by
ends p m e = ap (happened false) (ap (finished_by p m.pending m.address) e ∙ finished_by_lem p m _)

module _ (m : Machine) (l : List ℕ) where
  pub listed_by : {d : Result Instruction Refusal} {n : Machine} {k : List ℕ} (i : Instruction) → d ≡ Ok i → state n k ≡ execute_of (state (woken_of m) l) i → (p : List ℕ) → ended_by p m.pending m.address (Ends n) (state m k) ≡ instructed_of p (state m l) d
  unfolding instructed_of executed_of
  listed_by i q e p = rw q (ends p m e)

  pub interrupted_by : {w n : Machine} {k : List ℕ} (due : ℕ) → w ≡ woken_of m → state n k ≡ interrupted_of (state w l) due → (p : List ℕ) → ended_by p m.pending m.address (Ends n) (state m k) ≡ happened false (interrupt_cycle_of p (state m l) due)
  unfolding interrupt_cycle_of
  interrupted_by due e g p = ends p m (g ∙ ap (λ (n : Machine). interrupted_of (state n l) due) e)
