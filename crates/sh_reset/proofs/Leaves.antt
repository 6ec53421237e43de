-- A reset, by either column, leaves every data, display and scan cell (01, "Reset", HOUSE).
use mathlib.Core.Path.{◌≡◌, ◌∙◌, refl, sym, ap}
use mathlib.Core.Bool.{true, false}
use Prim.Native.Nat.{ℕ, ◌<◌}
use lib.Dec.{ltb, eqb}
use lib.Bits.{bit_and, bit_or}
use borrow.Author.Tests.{ltb-true, ltb-false, eqb-true, ne_eqb}
use Rattle.lent.specs.Lent.{at}
use Rattle.lent.proofs.Laws.{test, at_past, never}
use Rattle.sh_map.specs.declared.map.Kind.{Kind}
use Rattle.sh_map.specs.declared.map.Kind.TheVariants.{Register, Data, Display, Scan, Sound, Unmapped}
use Rattle.sh_map.specs.Map.{kind_of, askable_in, askable_of}
use Rattle.sh_map.proofs.Below.{below, below_at}
use Rattle.sh_state.specs.State.{State}
use Rattle.sh_rules.proofs.Fits.{Fit, cell_small}
use Rattle.sh_reset.specs.declared.reset.Column.{Column}
use Rattle.sh_reset.specs.declared.reset.Column.TheVariants.{Pin, Watchdog}
use Rattle.sh_reset.specs.Reset.{stays_in, rises_of, sets_of, reset_cell_of, reset_memory_of, reset_of}
use Rattle.sh_reset.proofs.Kept.{reset_at, reset_size}

module _ (c : ℕ) (h : askable_of c ≡ true) where
  -- a cell that can be asked for is none that cannot
  another : (a : ℕ) → askable_of a ≡ false → c ≡ a → ⊥
  another a n e = never (sym n ∙ (ap askable_of (sym e) ∙ h))

  -- all four bits stay, and none is set
  stays_all : (column : Column) (k : Kind) → askable_in k ≡ true → stays_in k column c ≡ 15
  unfolding askable_in stays_in
  stays_all column Register e = never e
  stays_all column Data e = refl
  stays_all column Display e = refl
  stays_all column Scan e = refl
  stays_all column Sound e = never e
  stays_all column Unmapped e = never e

  sets_none : (column : Column) (options : ℕ) → sets_of column options c ≡ 0
  unfolding sets_of rises_of askable_of askable_in kind_of
  sets_none Pin options = rw (ne_eqb c 0x0C (another 0x0C refl), ne_eqb c 0x13 (another 0x13 refl))
  sets_none Watchdog options = rw (ne_eqb c 0x0C (another 0x0C refl), ne_eqb c 0x1E (another 0x1E refl))

  cell_stays : (column : Column) (options v : ℕ) → v < 16 → reset_cell_of column options c v ≡ v
  unfolding askable_of reset_cell_of below
  cell_stays column options v k =
      rw (stays_all column (kind_of c) h, sets_none column options)
      (eqb-true _ _ (below_at 16 (λ n. eqb (bit_or (bit_and n 15) 0) n) v refl k))

  pub reset_leaves : (column : Column) (s : State) → Fit s → at (reset_of column s).memory c ≡ at s.memory c
  unfolding reset_of
  reset_leaves column s f =
      let options = s.machine.options in
      test (ltb c 1024)
      (λ t. reset_at column options f.memory c (ltb-true c 1024 t) ∙ cell_stays column options (at s.memory c) (cell_small f.memory c))
      (λ t. sym (at_past (reset_memory_of column options s.memory) c (rw (reset_size column options f.memory) (ltb-false c 1024 t)))
      ∙ at_past s.memory c (rw f.memory.size (ltb-false c 1024 t)))
