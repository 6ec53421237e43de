-- DAA and DAS go by the cell and CY: whatever AC was before them, what they leave is the same.
use mathlib.Core.Path.{◌≡◌, ap}
use Prim.Native.Nat.{ℕ}
use lib.Dec.{eqb}
use Rattle.lent.proofs.Laws.{test}
use Rattle.word.specs.declared.Instruction.TheVariants.{Daa, Das}
use Rattle.alu.specs.declared.Sum.{Sum}
use Rattle.sh_state.specs.declared.machine.Machine.{Machine}
use Rattle.sh_state.specs.Record.{set_pc, set_ac, set_cy, set_frozen, set_watchdog}
use Rattle.sh_state.specs.State.{State, state}
use Rattle.sh_cells.specs.Cells.{target_of, value_of, restarted_of, seen_of, read_of}
use Rattle.sh_writes.specs.Writes.{write_of}
use Rattle.sh_execute.specs.Execute.{onward_of, took_of, put_of, daa_of, das_of, execute_of}

module _ (s : State) (ac : ℕ) where
  -- the machine with another AC
  abbrev pub other : State
  other = state (set_ac s.machine ac) s.memory

  -- once a result is taken, nothing tells what AC was when the cell was read
  took_same : (a : ℕ) (r : Sum) → took_of (seen_of other a) r ≡ took_of (seen_of s a) r
  unfolding seen_of took_of onward_of restarted_of set_pc set_ac set_cy set_frozen set_watchdog
  took_same a r =
      test (eqb a 0x04) (λ b. rw b)
      (λ b. test (eqb a 0x05) (λ c. rw (b, c)) (λ c. test (eqb a 0x1E) (λ d. rw (b, c, d)) (λ d. rw (b, c, d))))

  put_same : (a : ℕ) (r : Sum) → put_of (state (read_of other a).machine s.memory) a r ≡ put_of (state (read_of s a).machine s.memory) a r
  unfolding put_of read_of
  put_same a r = ap (λ (m : Machine). write_of (state m s.memory) a r.value) (took_same a r)

  pub daa_any_ac : (x : ℕ) → execute_of other (Daa x) ≡ execute_of s (Daa x)
  unfolding execute_of daa_of read_of value_of set_ac
  daa_any_ac x = put_same (target_of s.memory x) _

  pub das_any_ac : (x : ℕ) → execute_of other (Das x) ≡ execute_of s (Das x)
  unfolding execute_of das_of read_of value_of set_ac
  das_any_ac x = put_same (target_of s.memory x) _
