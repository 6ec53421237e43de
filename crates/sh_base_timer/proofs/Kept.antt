-- The base timer keeps a well-formed machine well formed.
use mathlib.Core.Path.{◌≡◌}
use Prim.Native.Nat.{ℕ, ◌+◌, ◌/◌, ◌%◌, ◌<◌}
use native.Mathlib.Omega.{arith}
use borrow.Author.Tests.{eqb-false}
use Rattle.lent.specs.Lent.{at}
use Rattle.lent.proofs.Laws.{by_lt, by_eq}
use Rattle.sh_periods.specs.Periods.{base_ratio_of}
use Rattle.sh_state.specs.Record.{set_base_prescaler, set_base_counter}
use Rattle.sh_state.specs.State.{State}
use Rattle.sh_rules.proofs.Fits.{Fit, base_ratio_positive, base_timer_fits}
use Rattle.sh_timers.specs.Request.{moved}
use Rattle.sh_base_timer.specs.BaseTimer.{base_counted_of, base_prescaled_by, base_prescaled_of, base_pulsed_of}
use Rattle.sh_timers.proofs.Kept.{MovedFit}

pub base_pulsed_keeps : {s : State} → Fit s → MovedFit s.memory (base_pulsed_of s.machine (at s.memory 0x03))
unfolding base_pulsed_of base_prescaled_of base_prescaled_by base_counted_of set_base_prescaler set_base_counter
base_pulsed_keeps {s} f =
    let m = s.machine in
    let mode = at s.memory 0x03 in
    let still : MovedFit s.memory (moved m 0) = record { fit = f; requests = omega arith } in
    let on : (p c bits : ℕ) → mode / 4 % 4 ≡ 2 → p < base_ratio_of mode → c < 256 → bits < 16 → MovedFit s.memory (moved (set_base_counter (set_base_prescaler m p) c) bits) = λ p c bits e h k b. record {
      fit = record { memory = f.memory; machine = base_timer_fits f.machine p c mode h k (λ off. absurd (eqb-false _ _ off e)) };
      requests = b;
    } in
    by_eq (MovedFit s.memory) m.mode 2 _ _ (λ e. still)
    (λ n. by_eq (MovedFit s.memory) (mode / 4 % 4) 2 _ _
    (λ e. by_lt (MovedFit s.memory) (m.baseprescaler + 1) (base_ratio_of mode) _ _ (λ h. on _ m.basecounter 0 e h f.machine.basecounter (omega arith))
    (λ h. by_lt (MovedFit s.memory) m.basecounter 255 _ _ (λ k. on 0 _ 0 e (base_ratio_positive mode) (omega arith) (omega arith))
    (λ k. on 0 0 2 e (base_ratio_positive mode) (omega arith) (omega arith))))
    (λ n. still))
