-- A read of a cell keeps a well-formed machine well formed, and what a cell reads as is a nibble.
use mathlib.Core.List.{List}
use Prim.Native.Nat.{ℕ, ◌-◌, ◌<◌}
use native.Mathlib.Omega.{arith}
use native.Mathlib.Nat.{le_refl}
use lib.Bits.{bit_and, and_le_l, or_lt}
use Rattle.lent.specs.Lent.{at}
use Rattle.lent.proofs.Laws.{by_eq}
use Rattle.sh_map.specs.declared.map.Kind.{Kind}
use Rattle.sh_map.specs.declared.map.Kind.TheVariants.{Register, Data, Display, Scan, Sound, Unmapped}
use Rattle.sh_map.specs.Map.{kind_of}
use Rattle.sh_periods.specs.Periods.{period_of}
use Rattle.sh_halves.specs.Halves.{released_of, frozen_of}
use Rattle.sh_halves.proofs.Kept.{released_fits, frozen_fits_lem, low_small}
use Rattle.sh_state.specs.State.{State, state}
use Rattle.sh_rules.proofs.Fits.{Fit, MemoryFit, period_positive, cell_small, watchdog_fits_lem, frozen_set_fits}
use Rattle.sh_cells.specs.Cells.{port_of, plain_in, plain_of, value_of, restarted_of, seen_of, read_of}

port_small : (pin latch control : ℕ) → pin < 16 → latch < 16 → port_of pin latch control < 16
unfolding port_of
port_small pin latch control h k =
    or_lt 4 (bit_and pin (255 - control)) (bit_and latch control) (omega (arith, and_le_l pin (255 - control))) (omega (arith, and_le_l latch control))

plain_small : {l : List ℕ} → MemoryFit l → (k : Kind) (a : ℕ) → plain_in k l a < 16
unfolding plain_in
plain_small f Register a = cell_small f a
plain_small f Data a = cell_small f a
plain_small f Display a = cell_small f a
plain_small f Scan a = cell_small f a
plain_small f Sound a = omega arith
plain_small f Unmapped a = omega arith

pub value_small : {s : State} → Fit s → (a : ℕ) → value_of s a < 16
unfolding value_of plain_of
value_small {s} f a =
    let m = f.machine in
    let small = cell_small f.memory in
    by_eq (λ v. v < 16) a 0x04 _ _ (λ e. low_small s.machine.frozen s.machine.counter m.frozen)
    (λ n. by_eq (λ v. v < 16) a 0x05 _ _ (λ e. omega arith)
    (λ n. by_eq (λ v. v < 16) a 0x08 _ _ (λ e. port_small _ _ _ m.pina (small 0x08))
    (λ n. by_eq (λ v. v < 16) a 0x09 _ _ (λ e. port_small _ _ _ m.pinb (small 0x09))
    (λ n. by_eq (λ v. v < 16) a 0x0A _ _ (λ e. port_small _ _ _ m.pinc (small 0x0A))
    (λ n. by_eq (λ v. v < 16) a 0x0B _ _ (λ e. port_small _ _ _ m.pind (small 0x0B)) (λ n. plain_small f.memory (kind_of a) a))))))

pub read_keeps : {s : State} → Fit s → (a : ℕ) → Fit (state (read_of s a).machine s.memory)
unfolding read_of seen_of restarted_of
read_keeps {s} f a =
    let w = at s.memory 0x1E in
    by_eq (λ m. Fit (state m s.memory)) a 0x04 _ _
    (λ e. record { memory = f.memory; machine = frozen_set_fits f.machine released_of released_fits })
    (λ n. by_eq (λ m. Fit (state m s.memory)) a 0x05 _ _
    (λ e. record { memory = f.memory; machine = frozen_set_fits f.machine (frozen_of s.machine.counter) (frozen_fits_lem s.machine.counter) })
    (λ n. by_eq (λ m. Fit (state m s.memory)) a 0x1E _ _
    (λ e. record { memory = f.memory; machine = watchdog_fits_lem f.machine (period_of w) w (period_positive w) (le_refl _) }) (λ n. f)))
