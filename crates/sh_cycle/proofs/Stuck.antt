-- A cycle that is stuck before an unlisted word has changed nothing.
use Rattle.std.specs.Prelude.{Err, Ok, Result}
use mathlib.Core.Path.{◌≡◌, refl, ap}
use mathlib.Core.Bool.{Bool, true, false}
use mathlib.Core.List.{List}
use Prim.Native.Nat.{ℕ}
use native.Mathlib.Omega.{arith}
use lib.Dec.{eqb}
use Rattle.lent.specs.Lent.{pick, at}
use Rattle.lent.proofs.Laws.{by_choice}
use Rattle.word.specs.Word.{decode_of}
use Rattle.sh_state.specs.State.{State}
use Rattle.sh_interrupts.specs.Interrupt.{due_of, awake_of}
use Rattle.sh_cycle.specs.Cycle.{Happened, instructed_of, awake_cycle_of, cycle_due_of, cycle_of}
use Rattle.refusal.specs.declared.Refusal.{Refusal}
use Rattle.word.specs.declared.Instruction.{Instruction}

abbrev pub Stuck : State → Happened → Type 0
Stuck s h = h.stuck ≡ true → h.after ≡ s

pub not_stuck : {A : Type 0} → false ≡ true → A
not_stuck e = let z : ◌≡◌ {A = ℕ} 1 0 = ap (λ (b : Bool). pick b 0 1) e in absurd (omega arith)

instructed_stuck : (p : List ℕ) (s : State) (d : Result Instruction Refusal) → Stuck s (instructed_of p s d)
unfolding instructed_of
instructed_stuck p s (Ok i) = not_stuck
instructed_stuck p s (Err why) = λ e. refl

pub cycle_stuck : (p : List ℕ) (s : State) → Stuck s (cycle_of p s)
unfolding cycle_of cycle_due_of awake_cycle_of
cycle_stuck p s =
    let due = due_of s.memory in
    by_choice (Stuck s) (awake_of s.machine.mode due) _ _
    (by_choice (Stuck s) (eqb due 0) _ _ (instructed_stuck p s (decode_of (at p s.machine.pc))) not_stuck)
    not_stuck
