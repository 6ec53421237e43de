-- Taking an interrupt leaves every data, display and scan cell.
use mathlib.Core.Path.{◌≡◌, ◌∙◌, refl, sym, ap}
use mathlib.Core.Bool.{true, false}
use Prim.Native.Nat.{ℕ}
use lib.Seq.{get_or-set_other}
use Rattle.lent.specs.Lent.{at}
use Rattle.lent.proofs.Laws.{never}
use Rattle.sh_map.specs.Map.{kind_of, askable_in, askable_of}
use Rattle.sh_state.specs.State.{State}
use Rattle.sh_interrupts.specs.Interrupt.{interrupted_of}

module _ (c : ℕ) (h : askable_of c ≡ true) where
  -- a cell that can be asked for is none that cannot
  another : (a : ℕ) → askable_of a ≡ false → c ≡ a → ⊥
  another a n e = never (sym n ∙ (ap askable_of (sym e) ∙ h))

  pub interrupted_leaves : (s : State) (due : ℕ) → at (interrupted_of s due).memory c ≡ at s.memory c
  unfolding interrupted_of askable_of askable_in kind_of
  interrupted_leaves s due = get_or-set_other s.memory _ c _ 0 (another _ refl)
