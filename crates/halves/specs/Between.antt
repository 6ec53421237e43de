-- Timer0's counter read in two halves (02, P2): the two reads, what may stand between them, and what freezes.
use Rattle.std.specs.Prelude.{◌≡◌, Bool, true, false, List, [], ◌∷◌, ℕ, eqb, Err, Ok, Result}
use Rattle.lent.specs.Lent.{pick, at}
use Rattle.word.specs.declared.ImmediateOperation.TheVariants.{Adi, Adim, Sbi, Sbim, Eorim, Orim, Andim}
use Rattle.word.specs.declared.Instruction.{Instruction}
use Rattle.word.specs.declared.Instruction.TheVariants.{Accumulator, Memory, Lda, Sta, Immediate, Ldi, Branch, Call, Daa, Das, Rtnw, Rtni, Halt, Stop, Jmp, Shr, Tjmp, Nop}
use Rattle.word.specs.Word.{decode_of}
use Rattle.sh_state.specs.State.{State}
use Rattle.sh_cells.specs.Cells.{target_of}
use Rattle.sh_interrupts.specs.Interrupt.{due_of, awake_of}
use Rattle.sh_watchdog.specs.Watchdog.{expires_of}
use Rattle.sh_events.specs.Event.{event_of}
use Rattle.refusal.specs.declared.Refusal.{Refusal}

-- a cycle of this state executes the instruction
pub record Executes (p : List ℕ) (s : State) (i : Instruction) : Type 0 where
  pub running : s.machine.mode ≡ 0
  -- no interrupt to take instead
  pub quiet : due_of s.memory ≡ 0
  pub reads : decode_of (at p s.machine.pc) ≡ Ok i

-- the forms that read a cell and write none; $00F means the cell pointed at
unfoldable pub only_reads : Instruction → List ℕ → ℕ → Bool
only_reads (Accumulator o x) l c = eqb (target_of l x) c
only_reads (Memory o x) l c = false
only_reads (Lda x) l c = eqb (target_of l x) c
only_reads (Sta x) l c = false
only_reads (Immediate Adi x i) l c = eqb (target_of l x) c
only_reads (Immediate Adim x i) l c = false
only_reads (Immediate Sbi x i) l c = eqb (target_of l x) c
only_reads (Immediate Sbim x i) l c = false
only_reads (Immediate Eorim x i) l c = false
only_reads (Immediate Orim x i) l c = false
only_reads (Immediate Andim x i) l c = false
only_reads (Ldi x i) l c = false
only_reads (Branch b t) l c = false
only_reads (Call t) l c = false
only_reads (Daa x) l c = false
only_reads (Das x) l c = false
only_reads (Rtnw h k) l c = false
only_reads Rtni l c = false
only_reads Halt l c = false
only_reads Stop l c = false
only_reads (Jmp t) l c = false
only_reads Shr l c = false
only_reads Tjmp l c = false
only_reads Nop l c = false

-- a cell whose reading releases a frozen nibble or freezes another
unfoldable pub half_of : ℕ → Bool
half_of a = pick (eqb a 0x04) true (eqb a 0x05)

-- whether an instruction reads $004 or $005, or writes $005: of the forms on an address all read but STA and LDI
unfoldable pub touches_by : Instruction → List ℕ → Bool
touches_by (Accumulator o x) l = half_of (target_of l x)
touches_by (Memory o x) l = half_of (target_of l x)
touches_by (Lda x) l = half_of (target_of l x)
touches_by (Sta x) l = eqb (target_of l x) 0x05
touches_by (Immediate o x i) l = half_of (target_of l x)
touches_by (Ldi x i) l = eqb (target_of l x) 0x05
touches_by (Branch b t) l = false
touches_by (Call t) l = false
touches_by (Daa x) l = half_of (target_of l x)
touches_by (Das x) l = half_of (target_of l x)
touches_by (Rtnw h k) l = false
touches_by Rtni l = false
touches_by Halt l = false
touches_by Stop l = false
touches_by (Jmp t) l = false
touches_by Shr l = false
touches_by Tjmp l = false
touches_by Nop l = false

-- whether an instruction freezes a nibble: it reads $005 and writes nothing, since a write would release it again
unfoldable pub freezes_by : Instruction → List ℕ → Bool
freezes_by i l = only_reads i l 0x05

-- whether an instruction releases what is frozen: it reads $004 or writes $005; a form that does both does so on either
unfoldable pub releases_by : Instruction → List ℕ → Bool
releases_by (Accumulator o x) l = eqb (target_of l x) 0x04
releases_by (Memory o x) l = half_of (target_of l x)
releases_by (Lda x) l = eqb (target_of l x) 0x04
releases_by (Sta x) l = eqb (target_of l x) 0x05
releases_by (Immediate Adi x i) l = eqb (target_of l x) 0x04
releases_by (Immediate Adim x i) l = half_of (target_of l x)
releases_by (Immediate Sbi x i) l = eqb (target_of l x) 0x04
releases_by (Immediate Sbim x i) l = half_of (target_of l x)
releases_by (Immediate Eorim x i) l = half_of (target_of l x)
releases_by (Immediate Orim x i) l = half_of (target_of l x)
releases_by (Immediate Andim x i) l = half_of (target_of l x)
releases_by (Ldi x i) l = eqb (target_of l x) 0x05
releases_by (Branch b t) l = false
releases_by (Call t) l = false
releases_by (Daa x) l = half_of (target_of l x)
releases_by (Das x) l = half_of (target_of l x)
releases_by (Rtnw h k) l = false
releases_by Rtni l = false
releases_by Halt l = false
releases_by Stop l = false
releases_by (Jmp t) l = false
releases_by Shr l = false
releases_by Tjmp l = false
releases_by Nop l = false

unfoldable pub word_does : (Instruction → List ℕ → Bool) → Result Instruction Refusal → List ℕ → Bool
word_does f (Ok i) l = f i l
word_does f (Err why) l = false

-- a cycle does what the instruction does that it executes, if it executes one
unfoldable pub cycle_does : (Instruction → List ℕ → Bool) → List ℕ → State → Bool
cycle_does f p s =
    pick (awake_of s.machine.mode (due_of s.memory))
    (pick (eqb (due_of s.memory) 0) (word_does f (decode_of (at p s.machine.pc)) s.memory) false)
    false

-- the watchdog's reset, or the reset pin
unfoldable pub resets_of : State → ℕ → Bool
resets_of s e = pick (eqb e 0x02) (expires_of s.machine) (eqb e 0x03)

-- an event that reads $004 or $005, writes $005 or resets
unfoldable pub touches_of : List ℕ → State → ℕ → Bool
touches_of p s e = pick (eqb e 0x00) (cycle_does touches_by p s) (resets_of s e)

unfoldable pub freezes_of : List ℕ → State → ℕ → Bool
freezes_of p s e = pick (eqb e 0x00) (cycle_does freezes_by p s) false

unfoldable pub releases_of : List ℕ → State → ℕ → Bool
releases_of p s e = pick (eqb e 0x00) (cycle_does releases_by p s) (resets_of s e)

-- events of which none does so, each judged in the state that it finds
abbrev pub None : (List ℕ → State → ℕ → Bool) → List ℕ → List ℕ → State → Type 0
None f p [] s = true ≡ true
None f p (e ∷ events) s = (f p s e ≡ false) × None f p events (event_of p s e).after
