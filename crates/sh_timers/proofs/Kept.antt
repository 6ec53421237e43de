-- Timer0 and a request keep a well-formed machine well formed.
use mathlib.Core.Path.{refl}
use mathlib.Core.List.{List}
use Prim.Native.Nat.{ℕ, ◌+◌, ◌/◌, ◌%◌, ◌<◌}
use native.Mathlib.Omega.{arith}
use lib.Bits.{bit_or, or_lt}
use Rattle.lent.specs.Lent.{at}
use Rattle.lent.proofs.Laws.{by_lt, by_eq}
use Rattle.sh_state.specs.declared.machine.Machine.{Machine}
use Rattle.sh_map.specs.Map.{kind_of, register_bits, held_in, held_of}
use Rattle.sh_periods.specs.Periods.{ratio_of}
use Rattle.sh_state.specs.State.{State, state}
use Rattle.sh_map.proofs.Within.{nibble_within}
use Rattle.sh_rules.proofs.Fits.{Fit, ratio_positive, cell_small, prescaler_fits, counter_fits, store_keeps}
use Rattle.sh_timers.specs.declared.request.Moved.{Moved}
use Rattle.sh_timers.specs.Request.{moved, requested_of}
use Rattle.sh_timers.specs.Timer0.{reload_of, counted_of, prescaled_by, prescaled_of, clocked_of, fallen_of}

-- a part's work beside a memory: a well-formed machine, and requests of four bits
pub record MovedFit (l : List ℕ) (r : Moved) : Type 0 where
  pub fit : Fit (state r.machine l)
  pub requests : r.requests < 16

pub requested_keeps : {s : State} → Fit s → (bits : ℕ) → bits < 16 → Fit (state s.machine (requested_of s.memory bits))
unfolding requested_of held_of held_in kind_of register_bits
requested_keeps {s} f bits h =
    let l = s.memory in
    store_keeps f 0x01 (bit_or (at l 0x01) bits) (omega arith) (nibble_within _ _ (or_lt 4 (at l 0x01) bits (cell_small f.memory 0x01) h) refl)

counted_fits : {m : Machine} {l : List ℕ} → Fit (state m l) → (mode : ℕ) → MovedFit l (counted_of m mode)
unfolding counted_of reload_of
counted_fits {m} {l} f mode =
    let g = f.machine in
    by_lt (MovedFit l) m.counter 255 _ _
    (λ h. record { fit = record { memory = f.memory; machine = counter_fits g _ (omega arith) }; requests = omega arith })
    (λ h. record { fit = record { memory = f.memory; machine = counter_fits g _ (by_eq (λ v. v < 256) (mode / 8 % 2) 1 _ _ (λ e. g.load) (λ n. omega arith)) }; requests = omega arith })

pub clocked_keeps : {s : State} → Fit s → MovedFit s.memory (clocked_of s.machine (at s.memory 0x02))
unfolding clocked_of prescaled_of prescaled_by
clocked_keeps {s} f =
    let mode = at s.memory 0x02 in
    by_eq (MovedFit s.memory) (mode % 8) 7 _ _ (λ e. record { fit = f; requests = omega arith })
    (λ n. by_lt (MovedFit s.memory) (s.machine.prescaler + 1) (ratio_of mode) _ _
    (λ h. record { fit = record { memory = f.memory; machine = prescaler_fits f.machine _ mode h }; requests = omega arith })
    (λ h. counted_fits (record { memory = f.memory; machine = prescaler_fits f.machine 0 mode (ratio_positive mode) }) mode))

pub fallen_keeps : {s : State} → Fit s → (falling : ℕ) → MovedFit s.memory (fallen_of s.machine (at s.memory 0x02) falling)
unfolding fallen_of
fallen_keeps {s} f falling =
    let mode = at s.memory 0x02 in
    let still : MovedFit s.memory (moved s.machine 0) = record { fit = f; requests = omega arith } in
    by_eq (MovedFit s.memory) falling 0 _ _ (λ e. still)
    (λ n. by_eq (MovedFit s.memory) s.machine.mode 2 _ _ (λ e. still)
    (λ n. by_eq (MovedFit s.memory) (mode % 8) 7 _ _ (λ e. counted_fits f mode) (λ n. still)))
