-- One event: where it leaves a cell with another value it is a cycle, and an instruction of the cell's list of writers did it.
use Rattle.std.specs.Prelude.{Err, Ok, Result}
use mathlib.Core.Path.{◌≡◌, refl, sym, subst}
use mathlib.Core.Bool.{true}
use mathlib.Core.List.{List}
use Prim.Native.Nat.{ℕ}
use lib.Dec.{eqb}
use lib.ListN.{length}
use borrow.Author.Tests.{eqb-true, eqb-false}
use Rattle.lent.specs.Lent.{at}
use Rattle.lent.proofs.Laws.{test}
use Rattle.word.specs.Word.{decode_of}
use Rattle.sh_map.specs.Map.{askable_of}
use Rattle.sh_state.specs.State.{State}
use Rattle.sh_rules.specs.Judge.{state_judged}
use Rattle.sh_rules.proofs.Fits.{fit_of}
use Rattle.sh_interrupts.specs.Interrupt.{due_of, awake_of}
use Rattle.sh_cycle.specs.Cycle.{instructed_of, awake_cycle_of, cycle_due_of, cycle_of}
use Rattle.sh_events.specs.Event.{event_of}
use Rattle.writers.proofs.Step.{step_changes, differs_by_step}
use Rattle.writers.proofs.Listing.{listed_exactly}
use Rattle.origins.specs.Origin.{Wrote}
use Rattle.origins.proofs.Leaves.{Same, event_leaves, cycle_leaves}
use Rattle.refusal.specs.declared.Refusal.{Refusal}
use Rattle.word.specs.declared.Instruction.{Instruction}

module _ (p : List ℕ) (size : length p ≡ 4096) (c : ℕ) (h : askable_of c ≡ true) where
  -- the cycle of a machine that runs with nothing due
  instruction_wrote : (s : State) → state_judged s ≡ Ok tt → s.machine.mode ≡ 0 → due_of s.memory ≡ 0
      → (Same c s (event_of p s 0x00).after → ⊥) → Wrote p s c (at (event_of p s 0x00).after.memory c)
  unfolding event_of cycle_of cycle_due_of awake_of awake_cycle_of instructed_of
  instruction_wrote s f r q n = by_word (decode_of (at p s.machine.pc)) refl
    where
      by_word : (d : Result Instruction Refusal) → decode_of (at p s.machine.pc) ≡ d → Wrote p s c (at (event_of p s 0x00).after.memory c)
      by_word (Ok i) e = record {
        running = r;
        quiet = q;
        listed = (listed_exactly p c size h).every s.machine.pc (differs_by_step p s c h f r q n);
        instruction = i;
        reads = e;
        leaves = sym (step_changes p s i c r q e h);
        another = n;
      }
      by_word (Err why) e = absurd (n (rw (q, r, e)))

  cycle_wrote : (s : State) → state_judged s ≡ Ok tt → (Same c s (event_of p s 0x00).after → ⊥)
      → Wrote p s c (at (event_of p s 0x00).after.memory c)
  cycle_wrote s f n =
      test (eqb s.machine.mode 0)
      (λ r. test (eqb (due_of s.memory) 0) (λ q. instruction_wrote s f (eqb-true _ _ r) (eqb-true _ _ q) n)
      (λ q. absurd (n (cycle_leaves c h p s (λ _ e. eqb-false _ _ q e)))))
      (λ r. absurd (n (cycle_leaves c h p s (λ e _. eqb-false _ _ r e))))

  pub event_wrote : (s : State) (e : ℕ) → state_judged s ≡ Ok tt → (Same c s (event_of p s e).after → ⊥)
      → (e ≡ 0x00) × Wrote p s c (at (event_of p s e).after.memory c)
  event_wrote s e f n =
      test (eqb e 0x00)
      (λ t. let z = eqb-true e 0x00 t in
      (z, subst (λ (k : ℕ). (Same c s (event_of p s k).after → ⊥) → Wrote p s c (at (event_of p s k).after.memory c)) (sym z) (cycle_wrote s f) n))
      (λ t. absurd (n (event_leaves c h p s e (fit_of s f) (eqb-false e 0x00 t))))
