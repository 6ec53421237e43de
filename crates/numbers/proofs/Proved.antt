-- Every row of the table holds: an instruction on a machine of which its row's facts hold comes down to the arithmetic on the row's numbers, and that is computed.
use Rattle.std.specs.Prelude.{Ok}
use mathlib.Core.Path.{◌≡◌, ◌∙◌, refl, ap}
use mathlib.Core.Bool.{true}
use mathlib.Core.List.{List, [], ◌∷◌, ◌++◌}
use Prim.Native.Nat.{ℕ, zero, suc, ◌+◌, ◌<◌}
use native.Mathlib.Omega.{arith}
use lib.ListN.{replicate, set}
use lib.Seq.{get_or-set_same, get_or-set_other}
use borrow.Author.Tests.{lt-ltb}
use Rattle.lent.specs.Lent.{at, pair_at_of}
use Rattle.word.specs.declared.Operation.{Operation}
use Rattle.word.specs.declared.Operation.TheVariants.{Sub}
use Rattle.word.specs.declared.ImmediateOperation.TheVariants.{Sbim}
use Rattle.word.specs.declared.Instruction.TheVariants.{Accumulator, Immediate, Daa, Das}
use Rattle.word.specs.Codes.{immediate_of}
use Rattle.word.specs.Word.{decode_of, transfer_of, control_of, encode_of, decoded_told}
use Rattle.refusal.specs.Told.{refused_told}
use Rattle.alu.specs.declared.Sum.{Sum}
use Rattle.alu.specs.Alu.{sum_of, calculated_of, decimal_added_of, decimal_subtracted_of}
use Rattle.sh_rules.specs.Judge.{first_of, state_judged}
use Rattle.sh_map.specs.Map.{kind_of, register_bits, held_in, held_of, askable_in, askable_of}
use Rattle.sh_state.specs.Record.{set_pc, set_ac, set_cy}
use Rattle.sh_state.specs.State.{State, state}
use Rattle.sh_rules.proofs.Fits.{Fit, MemoryFit, fit_of, judged_of, cell_small, store_keeps}
use Rattle.sh_cells.specs.Cells.{target_of, plain_in, plain_of, value_of, seen_of, read_of}
use Rattle.sh_writes.specs.Writes.{noticed_of, write_of}
use Rattle.sh_execute.specs.Execute.{next_of, onward_of, took_of, put_of, accumulated_of, stored_of, accumulator_form_of, stored_immediate_of, immediate_form_of, daa_of, das_of, tjmp_of, execute_of}
use Rattle.sh_map.proofs.Within.{nibble_within}
use Rattle.sh_rules.proofs.Laws.{first_fine}
use Rattle.body.specs.Body.{length_fits, level_fits, told, level_judged}
use Rattle.level.specs.Level.{level_at, level_in, levelled_of, level_of}
use Rattle.writers.specs.Test.{names, changing, writes_in, writes_by, writes_of}
use Rattle.writers.specs.List.{writers_from, writers_of}
use Rattle.writers.proofs.Cell.{kept_askable}
use Rattle.writers.proofs.Witness.{arrived, pointing, holds, arrived_well}
use Rattle.numbers.specs.Row.{Fact, Is, All, Given, Digits, nop_but, Holds}
use Rattle.numbers.specs.Row.Place.{AC, CY}
use Rattle.numbers.specs.Row.Fact.{◌is◌}
use Rattle.numbers.specs.Row.Word.{◌has◌}
use Rattle.numbers.specs.Table.{cell, table}

-- The instructions of the table at $020, by the arithmetic that they take.

data_cell : askable_of 0x20 ≡ true
unfolding askable_of askable_in kind_of
data_cell = refl

-- AC and CY take the result
accumulates : (s : State) (o : Operation) (v c : ℕ) → calculated_of o (at s.memory 0x20) s.machine.ac s.machine.cy ≡ sum_of v c
    → All (Is (execute_of s (Accumulator o 0x20))) (AC is v ∷ CY is c ∷ [])
unfolding execute_of accumulator_form_of accumulated_of took_of onward_of set_pc set_ac set_cy target_of read_of seen_of value_of plain_of plain_in kind_of
accumulates s o v c e = rw e (refl, (refl, tt))

-- AC, the cell and CY take it
abbrev Took : State → ℕ → ℕ → Type 0
Took s v c = All (Is s) (AC is v ∷ cell is v ∷ CY is c ∷ [])

put_took : (s : State) → MemoryFit s.memory → (r : Sum) (v c : ℕ) → r ≡ sum_of v c → v < 16 → Took (put_of s 0x20 r) v c
unfolding put_of took_of onward_of set_pc set_ac set_cy write_of noticed_of
put_took s f r v c e h =
    rw e
    (refl, (get_or-set_same s.memory 0x20 _ 0 (rw f.size (omega arith)) ∙ kept_askable (at s.memory 0x20) 0x20 v data_cell (cell_small f 0x20) h, (refl, tt)))

module _ (s : State) (f : MemoryFit s.memory) (v c : ℕ) (h : v < 16) where
  subtracts : (i : ℕ) → calculated_of Sub (at s.memory 0x20) i s.machine.cy ≡ sum_of v c → All (Is (execute_of s (Immediate Sbim 0x20 i))) (cell is v ∷ CY is c ∷ [])
  unfolding execute_of immediate_form_of stored_immediate_of stored_of target_of read_of seen_of value_of plain_of plain_in kind_of
  subtracts i e = (put_took (state s.machine s.memory) f _ v c e h).1

  adjusts : decimal_added_of (at s.memory 0x20) s.machine.cy ≡ sum_of v c → Took (execute_of s (Daa 0x20)) v c
  unfolding execute_of daa_of target_of read_of seen_of value_of plain_of plain_in kind_of
  adjusts e = put_took (state s.machine s.memory) f _ v c e h

  adjusts_back : decimal_subtracted_of (at s.memory 0x20) s.machine.cy ≡ sum_of v c → Took (execute_of s (Das 0x20)) v c
  unfolding execute_of das_of target_of read_of seen_of value_of plain_of plain_in kind_of
  adjusts_back e = put_took (state s.machine s.memory) f _ v c e h

-- A machine of which a row's facts hold: its cell is $020, and its TBR is 5.
module _ (pc ac cy v : ℕ) (h : (pc < 4096) × (ac < 16) × (cy < 2) × (v < 16)) where
  before : State
  before = state (arrived pc ac cy) (set (pointing 0x20 v) 0x0E 5)

  pointing_fit : Fit (state (arrived pc ac cy) (pointing 0x20 v))
  pointing_fit = fit_of _ (arrived_well pc ac cy 0x20 v h.0 h.1 h.2 h.3 data_cell)

  well : state_judged before ≡ Ok tt
  unfolding before held_of held_in kind_of register_bits
  well = judged_of (store_keeps pointing_fit 0x0E 5 (omega arith) refl)

  cell_there : at before.memory 0x20 ≡ v
  unfolding before
  cell_there = get_or-set_other (pointing 0x20 v) 0x0E 0x20 5 0 (omega arith) ∙ holds 0x20 v data_cell

  tbr_there : at before.memory 0x0E ≡ 5
  unfolding before
  tbr_there = get_or-set_same (pointing 0x20 v) 0x0E 5 0 (rw pointing_fit.memory.size (omega arith))

  there : (facts : List Fact) → All (Is before) facts → (s : State) × Given facts s
  there facts said = (before, record { well_formed = well; said = said })

-- The level of a memory and a body of which a row's digits hold, and such a memory and body: the digits lie at $020 and $021.
module _ (high low ground : ℕ) where
  levels : (memory body : List ℕ) → Digits high low ground memory body → level_of memory body ≡ level_at high low ground
  unfolding level_of level_in levelled_of first_of
  levels memory body g = rw (g.good_memory, g.good_body, g.high_digit, g.low_digit, g.its_ground)

  body_there : List ℕ
  body_there = 0x00 ∷ 0x20 ∷ 0x00 ∷ 0x21 ∷ ground ∷ []

  memory_there : List ℕ
  memory_there = set (pointing 0x20 high) 0x21 low

  digits_there : (high < 8) × (low < 8) × (ground < 64) → (memory : List ℕ) × ((body : List ℕ) × Digits high low ground memory body)
  unfolding body_there memory_there state_judged level_judged length_fits level_fits told first_of askable_of askable_in kind_of held_of held_in pair_at_of
  digits_there h =
      let f = pointing_fit 0 0 0 high (omega arith) in
      let size = f.memory.size in (
        memory_there,
        (
          body_there,
          record {
            good_memory = (first_fine _ _ (judged_of (store_keeps f 0x21 low (omega arith) (nibble_within low 15 (omega arith) refl)))).0;
            good_body = rw (lt-ltb ground 64 h.2);
            high_digit = get_or-set_other (pointing 0x20 high) 0x21 0x20 low 0 (omega arith) ∙ holds 0x20 high data_cell;
            low_digit = get_or-set_same (pointing 0x20 high) 0x21 low 0 (rw size (omega arith));
            its_ground = refl;
          },
        ),
      )

-- A NOP writes nothing, so that the list is that of the words that are not NOP.
nops_first : (n a x : ℕ) (l : List ℕ) → writers_from a (replicate n 0xFFFF ++ l) x ≡ writers_from (a + n) l x
unfolding writers_from writes_of writes_by writes_in decode_of control_of
nops_first zero a x l = let z : a + 0 ≡ a = omega arith in rw z
nops_first (suc n) a x l = let z : a + suc n ≡ a + 1 + n = omega arith in rw z (nops_first n (a + 1) x l)

nops_last : (n a x : ℕ) (l : List ℕ) → writers_from a (l ++ replicate n 0xFFFF) x ≡ writers_from a l x
unfolding writers_from writes_of writes_by writes_in decode_of control_of
nops_last zero a x [] = refl
nops_last (suc n) a x [] = nops_last n (a + 1) x []
nops_last n a x (w ∷ l) = let e = nops_last n (a + 1) x l in rw e

spliced : (a b c d e : ℕ) → nop_but (0x010 has a ∷ 0x011 has b ∷ 0x012 has c ∷ 0x013 has d ∷ 0x014 has e ∷ []) ≡ replicate 0x010 0xFFFF ++ ((a ∷ b ∷ c ∷ d ∷ e ∷ []) ++ replicate 4075 0xFFFF)
spliced a b c d e = refl

writers_there : (a b c d e x : ℕ) → writers_of (nop_but (0x010 has a ∷ 0x011 has b ∷ 0x012 has c ∷ 0x013 has d ∷ 0x014 has e ∷ [])) x ≡ writers_from 0x010 (a ∷ b ∷ c ∷ d ∷ e ∷ []) x
unfolding writers_of
writers_there a b c d e x =
    ap (λ (p : List ℕ). writers_from 0 p x) (spliced a b c d e)
    ∙ (nops_first 0x010 0 x _ ∙ nops_last 4075 0x010 x (a ∷ b ∷ c ∷ d ∷ e ∷ []))

infixr 20 ◌and◌
abbrev ◌and◌ : {A B : Type 0} → A → B → A × B
a and b = (a, b)

-- THE TWELVE NUMBERS
pub the_numbers : All Holds table
unfolding calculated_of decimal_added_of decimal_subtracted_of before arrived set_pc set_ac set_cy execute_of onward_of next_of tjmp_of decode_of control_of decoded_told refused_told encode_of level_at writers_from writes_of writes_by writes_in names changing transfer_of immediate_of
the_numbers =
    -- 1 to 3
    (λ s g. accumulates s _ _ _ (rw (g.said.0, g.said.1.0, g.said.1.1.0)), there 0 8 1 9 (omega arith) _ (cell_there 0 8 1 9 (omega arith) and refl and refl and tt))
    and (λ s g. accumulates s _ _ _ (rw (g.said.0, g.said.1.0)), there 0 5 0 3 (omega arith) _ (cell_there 0 5 0 3 (omega arith) and refl and tt))
    and (λ s g. accumulates s _ _ _ (rw (g.said.0, g.said.1.0)), there 0 5 0 5 (omega arith) _ (cell_there 0 5 0 5 (omega arith) and refl and tt))
    -- 4 to 6
    and (λ s g. subtracts s (fit_of s g.well_formed).memory _ _ (omega arith) 0 (rw g.said.0), there 0 0 0 7 (omega arith) _ (cell_there 0 0 0 7 (omega arith) and tt))
    and (λ s g. adjusts s (fit_of s g.well_formed).memory _ _ (omega arith) (rw g.said.0), there 0 0 0 12 (omega arith) _ (cell_there 0 0 0 12 (omega arith) and refl and tt))
    and (λ s g. adjusts_back s (fit_of s g.well_formed).memory _ _ (omega arith) (rw (g.said.0, g.said.1.0)), there 0 0 0 14 (omega arith) _ (cell_there 0 0 0 14 (omega arith) and refl and tt))
    -- 7
    and (λ s g. (rw g.said.0, tt), there 0x7FF 0 0 0 (omega arith) _ (refl and tt))
    and (λ s g. (rw g.said.0, tt), there 0xFFF 0 0 0 (omega arith) _ (refl and tt))
    -- 8
    and (λ s g. (rw (g.said.0, g.said.1.0, g.said.1.1.0), tt), there 0xA34 6 0 0 (omega arith) _ (refl and tbr_there 0xA34 6 0 0 (omega arith) and refl and tt))
    -- 9 and 10
    and (refl, refl)
    and refl
    and (refl, refl)
    -- 11
    and (levels 1 0 2, digits_there 1 0 2 (omega arith))
    and (levels 0 1 2, digits_there 0 1 2 (omega arith))
    -- 12
    and (refl, refl)
    and (refl, refl)
    and (refl, refl)
    and (refl, refl)
    and (refl, refl)
    and writers_there _ _ _ _ _ _
    and tt
