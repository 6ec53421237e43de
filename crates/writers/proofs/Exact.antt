-- The test holds exactly when the statement does: what changes a cell writes it with a value that may differ, and from such a value the witness is built.
use Rattle.std.specs.Prelude.{Err, Ok, Result}
use mathlib.Core.Path.{◌≡◌, ◌∙◌, refl, sym, ap}
use mathlib.Core.Bool.{Bool, true}
use mathlib.Core.List.{List}
use Prim.Native.Nat.{ℕ, ◌<◌}
use native.Mathlib.Omega.{arith}
use lib.Dec.{eqb}
use lib.Seq.{get_or-set_same, get_or-set_other}
use borrow.Author.Tests.{eqb-true, eqb-false}
use Rattle.lent.specs.Lent.{both, at}
use Rattle.lent.proofs.Laws.{both_true, test, never}
use Rattle.word.specs.declared.Instruction.{Instruction}
use Rattle.word.specs.Word.{decode_of}
use Rattle.word.proofs.RoundTrip.{encode_decode}
use Rattle.sh_map.specs.Map.{askable_of}
use Rattle.sh_state.specs.Record.{set_pc, set_ac, set_cy, fresh_of}
use Rattle.sh_state.specs.State.{State, state}
use Rattle.sh_rules.proofs.Fits.{Fit, fit_of, cell_small}
use Rattle.sh_cells.specs.Cells.{target_of, value_of}
use Rattle.writers.specs.Statement.{Changes}
use Rattle.writers.specs.Test.{names, writes_in, writes_by, writes_of}
use Rattle.writers.proofs.Cell.{past_registers, kept_askable, value_askable, names_itself, names_pointed}
use Rattle.writers.proofs.Witness.{arrived, pointing, holds, quiet, means, arrived_well}
use Rattle.writers.proofs.Forms.{left_of, Value, Form, form_of}
use Rattle.writers.proofs.Forms.Form.{Writes, Leaves}
use Rattle.refusal.specs.declared.Refusal.{Refusal}

-- an address that means a cell names it
named : (l : List ℕ) (x c : ℕ) → target_of l x ≡ c → names x c ≡ true
unfolding target_of
named l x c e =
    test (eqb x 0x0F) (λ t. let q = eqb-true x 0x0F t in rw q (names_pointed c)) (λ t. let q : x ≡ c = rw t at e in rw q (names_itself c))

module _ (s : State) (f : Fit s) (c : ℕ) (h : askable_of c ≡ true) where
  -- where the address means the cell, it is left with the value
  left_there : (x v : ℕ) → target_of s.memory x ≡ c → v < 16 → at (left_of s x v) c ≡ v
  unfolding left_of
  left_there x v e k =
      let b = past_registers c h in
      rw e (get_or-set_same s.memory c _ 0 (rw f.memory.size (omega arith)) ∙ kept_askable (at s.memory c) c v h (cell_small f.memory c) k)

  -- and elsewhere it is left as it was
  left_else : (x v : ℕ) → (target_of s.memory x ≡ c → ⊥) → at (left_of s x v) c ≡ at s.memory c
  unfolding left_of
  left_else x v n = get_or-set_other s.memory (target_of s.memory x) c _ 0 (λ e. n (sym e))

  module _ (x : ℕ) (value : ℕ → ℕ → ℕ → ℕ) (may : Bool) (w : Value value may) where
    -- the value by the cell itself
    left_value : target_of s.memory x ≡ c
        → at (left_of s x (value (value_of s (target_of s.memory x)) s.machine.ac s.machine.cy)) c ≡ value (at s.memory c) s.machine.ac s.machine.cy
    left_value e =
        let q : value_of s (target_of s.memory x) ≡ at s.memory c = rw e (value_askable s c h) in
        rw q (left_there x _ e (w.nibble _ _ _ (cell_small f.memory c) f.machine.ac f.machine.cy))

    changed_writes : (at (left_of s x (value (value_of s (target_of s.memory x)) s.machine.ac s.machine.cy)) c ≡ at s.memory c → ⊥) → both (names x c) may ≡ true
    changed_writes d =
        test (eqb (target_of s.memory x) c)
        (λ t. let e = eqb-true _ _ t in test may (λ m. rw (named s.memory x c e, m))
        (λ m. absurd (d (left_value e ∙ w.still m _ _ _ (cell_small f.memory c)))))
        (λ t. absurd (d (left_else x _ (eqb-false _ _ t))))

pub sound : (p : List ℕ) (a c : ℕ) → askable_of c ≡ true → Changes p a c → writes_of (at p a) c ≡ true
unfolding writes_of writes_by
sound p a c h d = rw d.reads (by_form (form_of d.instruction c (encode_decode (at p a) d.instruction d.reads).0 h))
  where
    by_form : Form d.instruction c → writes_in d.instruction c ≡ true
    by_form (Writes x value may w after passes) =
        passes ∙ changed_writes d.before (fit_of d.before d.well_formed) c h x value may w (λ e. d.differs (ap (λ (l : List ℕ). at l c) (after d.before) ∙ e))
    by_form (Leaves same fails) = absurd (d.differs (same d.before))

pub complete : (p : List ℕ) (a c : ℕ) → askable_of c ≡ true → a < 4096 → writes_of (at p a) c ≡ true → Changes p a c
unfolding writes_of writes_by arrived set_pc set_ac set_cy fresh_of
complete p a c h k = by_word (decode_of (at p a)) refl
  where
    by_form : (i : Instruction) → decode_of (at p a) ≡ Ok i → Form i c → writes_in i c ≡ true → Changes p a c
    by_form i e (Leaves same fails) t = never (sym fails ∙ t)
    by_form i e (Writes x value may w after passes) t =
        let b = both_true (names x c) may (sym passes ∙ t) in
        let m = arrived a w.ac w.cy in
        let s : State = state m (pointing c w.cell) in
        let well = arrived_well a w.ac w.cy c w.cell k w.small.1 w.small.2 w.small.0 h in
        record {
          before = s;
          well_formed = well;
          running = refl;
          quiet = quiet c w.cell h;
          there = refl;
          instruction = i;
          reads = e;
          differs = λ d.
              w.moves b.1
              (rw (holds c w.cell h) at (sym (left_value s (fit_of s well) c h x value may w (means c w.cell h x b.0)) ∙ (sym (ap (λ (l : List ℕ). at l c) (after s)) ∙ d)));
        }

    by_word : (d : Result Instruction Refusal) → decode_of (at p a) ≡ d → writes_by d c ≡ true → Changes p a c
    by_word (Ok i) e t = by_form i e (form_of i c (encode_decode (at p a) i e).0 h) t
    by_word (Err why) e t = never t
