-- Interrupts (003, 13; 01, "Cycle" (a) and (b)).
use Rattle.std.specs.Prelude.{ℕ, Bool, true, not, List, ltb, eqb, set}
use Rattle.std.specs.Int.Bits.{bit_and}
use Rattle.lent.specs.Lent.{pick, at}
use Rattle.sh_state.specs.declared.machine.Machine.{Machine}
use Rattle.sh_state.specs.Record.{set_pc, push_of, entry_of}
use Rattle.sh_state.specs.State.{State, state}

-- enabled ($000) and requested ($001), source by source: external 8, Timer0 4, base 2, port 1
unfoldable pub due_of : List ℕ → ℕ
due_of l = bit_and (at l 0x00) (at l 0x01)

-- what wakes: any of the four from HALT (mode 1), external or port from STOP (mode 2)
unfoldable pub awake_of : ℕ → ℕ → Bool
awake_of mode due = pick (eqb mode 0) true (pick (eqb mode 1) (not (eqb due 0)) (not (eqb (bit_and due 9) 0)))

-- the vector of the first of external $001, Timer0 $002, base $003, port $004
unfoldable pub vector_of : ℕ → ℕ
vector_of due = pick (ltb 7 due) 0x001 (pick (ltb 3 due) 0x002 (pick (ltb 1 due) 0x003 0x004))

-- CY and PC pushed, PC at the vector
unfoldable pub entered_of : Machine → ℕ → Machine
entered_of m due = set_pc (push_of m (entry_of m.cy m.pc)) (vector_of due)

-- an interrupt taken: besides, $000 is cleared and $001 left
unfoldable pub interrupted_of : State → ℕ → State
interrupted_of s due = state (entered_of s.machine due) (set s.memory 0x00 0)
