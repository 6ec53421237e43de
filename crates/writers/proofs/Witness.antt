-- The witness: a well-formed machine that runs at an address with nothing requested, whose cell holds a chosen nibble and is pointed at.
use Rattle.std.specs.Prelude.{Ok}
use mathlib.Core.Path.{◌≡◌, ◌∙◌, refl, sym}
use mathlib.Core.Logic.{⊎_elim}
use mathlib.Core.Bool.{true}
use mathlib.Core.List.{List}
use Prim.Native.Nat.{ℕ, ◌/◌, ◌%◌, ◌<◌}
use native.Mathlib.Omega.{arith}
use lib.Bits.{bit_and, and_mask, and_zero_l}
use lib.ListN.{length, set, replicate, length-set, length-replicate}
use lib.Seq.{get_or-set_same, get_or-set_other}
use borrow.Author.Tests.{ne_eqb}
use Rattle.lent.specs.Lent.{at}
use Rattle.sh_tones.proofs.Kept.{silent_fits}
use Rattle.sh_halves.proofs.Kept.{released_fits}
use Rattle.sh_state.specs.declared.machine.Machine.{Machine}
use Rattle.sh_rules.specs.Judge.{state_judged}
use Rattle.sh_map.specs.Map.{kind_of, register_bits, held_in, held_of, askable_of}
use Rattle.sh_periods.specs.Periods.{periods, period_of}
use Rattle.sh_state.specs.Record.{set_pc, set_ac, set_cy, fresh_of}
use Rattle.sh_state.specs.State.{state}
use Rattle.sh_map.proofs.Within.{nibble_within}
use Rattle.sh_rules.proofs.Fits.{Fit, MemoryFit, MachineFit, ratio_positive, base_ratio_positive, pc_fits, ac_fits, cy_fits, fit_at, store_keeps, judged_of}
use Rattle.sh_cells.specs.Cells.{pointed_of, target_of}
use Rattle.sh_interrupts.specs.Interrupt.{due_of}
use Rattle.sh_reset.proofs.Laws.{zeros_at}
use Rattle.writers.specs.Test.{names}
use Rattle.writers.proofs.Cell.{past_registers, held_askable, names_only}

-- the fresh record at an address, with AC and CY
unfoldable pub arrived : ℕ → ℕ → ℕ → Machine
arrived a ac cy = set_pc (set_ac (set_cy (fresh_of 0) cy) ac) a

-- zeros, DPL, DPM and DPH at the cell, and the cell: a stage each
zeros : List ℕ
zeros = replicate 1024 0

low : ℕ → List ℕ
low c = set zeros 0x10 (c % 16)

middle : ℕ → List ℕ
middle c = set (low c) 0x11 (c / 16 % 8)

high : ℕ → List ℕ
high c = set (middle c) 0x12 (c / 128)

pub pointing : ℕ → ℕ → List ℕ
pointing c v = set (high c) c v

zeros_hold : (a : ℕ) → at zeros a ≡ 0
unfolding zeros
zeros_hold a = sym (zeros_at 1024 a)

zeros_fit : MemoryFit zeros
unfolding zeros
zeros_fit = record { size = length-replicate {A = ℕ} 1024 0; cells = λ a. rw (← zeros_at 1024 a) }

fresh_fits : MachineFit (fresh_of 0) 0 0 0 0
unfolding fresh_of period_of periods
fresh_fits =
    let entries : (i : ℕ) → at (replicate {A = ℕ} 8 0) i < 8192 = λ i. rw (← zeros_at 8 i) (omega arith) in
    search (silent_fits, released_fits, ratio_positive, base_ratio_positive, arith)

arrived_fits : (a ac cy : ℕ) → a < 4096 → ac < 16 → cy < 2 → MachineFit (arrived a ac cy) 0 0 0 0
unfolding arrived
arrived_fits a ac cy h k l = pc_fits (ac_fits (cy_fits fresh_fits cy l) ac k) a h

-- three bits lie within three bits
octal_within : (v : ℕ) → v < 8 → bit_and v 7 ≡ v
octal_within v h = and_mask v 3 ∙ omega arith

module _ (m : Machine) (f : MachineFit m 0 0 0 0) (c : ℕ) (h : askable_of c ≡ true) where
  high_fits : Fit (state m (high c))
  unfolding high middle low held_of held_in kind_of register_bits
  high_fits =
      let b = past_registers c h in
      let z = fit_at zeros_fit f (zeros_hold 0x02) (zeros_hold 0x03) (zeros_hold 0x1E) (zeros_hold 0x0C) in
      store_keeps (store_keeps (store_keeps z 0x10 (c % 16) (omega arith) (nibble_within _ _ (omega arith) refl)) 0x11 (c / 16 % 8) (omega arith) (octal_within _ (omega arith))) 0x12 (c / 128) (omega arith) (octal_within _ (omega arith))

  pub pointing_fits : (v : ℕ) → v < 16 → Fit (state m (pointing c v))
  unfolding pointing
  pointing_fits v k = let b = past_registers c h in store_keeps high_fits c v (omega arith) (nibble_within v _ k (held_askable c h))

low_size : (c : ℕ) → length (low c) ≡ 1024
unfolding low
low_size c = length-set zeros 0x10 (c % 16) ∙ zeros_fit.size

middle_size : (c : ℕ) → length (middle c) ≡ 1024
unfolding middle
middle_size c = length-set (low c) 0x11 (c / 16 % 8) ∙ low_size c

high_size : (c : ℕ) → length (high c) ≡ 1024
unfolding high
high_size c = length-set (middle c) 0x12 (c / 128) ∙ middle_size c

-- What the memory holds.
module _ (c v : ℕ) (h : askable_of c ≡ true) where
  pub holds : at (pointing c v) c ≡ v
  unfolding pointing
  holds = let b = past_registers c h in get_or-set_same (high c) c v 0 (rw (high_size c) (omega arith))

  beside : (a : ℕ) → a < 0x20 → at (pointing c v) a ≡ at (high c) a
  unfolding pointing
  beside a k = let b = past_registers c h in get_or-set_other (high c) c a v 0 (omega arith)

  points : pointed_of (pointing c v) ≡ c
  unfolding pointed_of high middle low
  points =
      let dph : at (high c) 0x12 ≡ c / 128 = get_or-set_same (middle c) 0x12 _ 0 (rw (middle_size c) (omega arith)) in
      let dpm : at (high c) 0x11 ≡ c / 16 % 8 = get_or-set_other (middle c) 0x12 0x11 _ 0 (omega arith) ∙ get_or-set_same (low c) 0x11 _ 0 (rw (low_size c) (omega arith)) in
      let dpl : at (high c) 0x10 ≡ c % 16 = get_or-set_other (middle c) 0x12 0x10 _ 0 (omega arith) ∙ (get_or-set_other (low c) 0x11 0x10 _ 0 (omega arith) ∙ get_or-set_same zeros 0x10 _ 0 (rw zeros_fit.size (omega arith))) in
      rw (beside 0x12 (omega arith), beside 0x11 (omega arith), beside 0x10 (omega arith), dph, dpm, dpl) (omega arith)

  pub quiet : due_of (pointing c v) ≡ 0
  unfolding due_of high middle low
  quiet =
      let none : at (high c) 0x00 ≡ 0 = get_or-set_other (middle c) 0x12 0x00 _ 0 (omega arith) ∙ (get_or-set_other (low c) 0x11 0x00 _ 0 (omega arith) ∙ (get_or-set_other zeros 0x10 0x00 _ 0 (omega arith) ∙ zeros_hold 0x00)) in
      rw (beside 0x00 (omega arith), none) (and_zero_l (at (pointing c v) 0x01))

  -- an address that names the cell means it
  pub means : (x : ℕ) → names x c ≡ true → target_of (pointing c v) x ≡ c
  unfolding target_of
  means x n =
      let b = past_registers c h in
      ⊎_elim (λ e. rw (e, ne_eqb c 0x0F (omega arith))) (λ e. rw e points) (names_only x c n)

pub arrived_well : (a ac cy c v : ℕ) → a < 4096 → ac < 16 → cy < 2 → v < 16 → askable_of c ≡ true → state_judged (state (arrived a ac cy) (pointing c v)) ≡ Ok tt
arrived_well a ac cy c v p q r k h = judged_of (pointing_fits (arrived a ac cy) (arrived_fits a ac cy p q r) c h v k)
