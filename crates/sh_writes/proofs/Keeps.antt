-- A write of a cell keeps a well-formed machine well formed, and touches at most one cell.
use mathlib.Core.Path.{◌≡◌, ◌∙◌, refl}
use Prim.Native.Nat.{ℕ, ◌-◌, ◌/◌, ◌%◌, ◌<◌}
use native.Mathlib.Omega.{arith}
use native.Mathlib.Nat.{le_refl}
use lib.Dec.{ltb, eqb}
use lib.Bits.{bit_and}
use lib.ListN.{set}
use lib.Seq.{get_or-set_same, get_or-set_other}
use borrow.Author.Tests.{ltb-true, ltb-false, eqb-true, eqb-false}
use Rattle.lent.specs.Lent.{at}
use Rattle.lent.proofs.Laws.{test, by_eq, at_past}
use Rattle.sh_state.specs.declared.machine.Machine.{Machine}
use Rattle.sh_map.specs.declared.map.Kind.{Kind}
use Rattle.sh_map.specs.declared.map.Kind.TheVariants.{Register, Data, Display, Scan, Sound, Unmapped}
use Rattle.sh_map.specs.Map.{kind_of, register_bits, register_written, held_in, held_of, written_in, written_of}
use Rattle.sh_periods.specs.Periods.{periods, period_of}
use Rattle.sh_state.specs.Record.{set_base_prescaler, set_base_counter}
use Rattle.sh_halves.specs.Halves.{released_of}
use Rattle.sh_halves.proofs.Kept.{released_fits}
use Rattle.sh_state.specs.State.{State, state}
use Rattle.sh_map.proofs.Below.{below, below_at, below_pair}
use Rattle.sh_map.proofs.Within.{joined_within, cut_within, cut_by_within}
use Rattle.sh_rules.proofs.Fits.{Fit, MachineFit, ratio_positive, base_ratio_positive, period_positive, cell_small, store_fits, prescaler_fits, counter_fits, load_fits, base_timer_fits, watchdog_fits_lem, pending_read_fits, frozen_set_fits, fit_at, store_keeps}
use Rattle.sh_cells.specs.Cells.{restarted_of}
use Rattle.sh_writes.specs.Writes.{kept_of, base_written_of, load_low_of, load_high_of, asked_of, noticed_of, write_of}

-- a write stores only bits that the cell holds
written_held : (k : Kind) (a : ℕ) → bit_and (written_in k a) (held_in k a) ≡ written_in k a
unfolding written_in held_in register_written register_bits below
written_held Register a =
    test (ltb a 32)
    (λ t. eqb-true _ _ (below_at 32 (λ i. eqb (bit_and (at register_written i) (at register_bits i)) (at register_written i)) a refl (ltb-true a 32 t)))
    (λ t. rw (← at_past register_written a (ltb-false a 32 t)))
written_held Data a = refl
written_held Display a = refl
written_held Scan a = refl
written_held Sound a = refl
written_held Unmapped a = refl

kept_held : (old a v : ℕ) → bit_and old (held_of a) ≡ old → bit_and (kept_of old a v) (held_of a) ≡ kept_of old a v
unfolding kept_of written_of held_of
kept_held old a v h =
    joined_within _ _ (held_of a) (cut_by_within old (255 - written_of a) (held_of a) h)
    (cut_within v (written_of a) (held_of a) (written_held (kind_of a) a))

-- what $003, $01E and $00C hold after a nibble is written over a nibble
module _ (old v : ℕ) (h : old < 16) (k : v < 16) where
  kept_base : kept_of old 0x03 v ≡ v
  unfolding kept_of written_of written_in kind_of register_written below
  kept_base = eqb-true _ _ (below_pair 16 16 (λ o n. eqb (kept_of o 0x03 n) n) old v refl h k)

  kept_control : period_of (kept_of old 0x1E v) ≡ period_of v
  unfolding kept_of written_of written_in kind_of register_written period_of periods below
  kept_control = eqb-true _ _ (below_pair 16 16 (λ o n. eqb (period_of (kept_of o 0x1E n)) (period_of n)) old v refl h k)

  kept_bonding : kept_of old 0x0C v % 4 ≡ old % 4
  unfolding kept_of written_of written_in kind_of register_written below
  kept_bonding = eqb-true _ _ (below_pair 16 16 (λ o n. eqb (kept_of o 0x0C n % 4) (o % 4)) old v refl h k)

-- What the record notices of a write.

base_written_fits : {m : Machine} {t b w o : ℕ} → MachineFit m t b w o → (v : ℕ) → MachineFit (base_written_of m v) t v w o
unfolding base_written_of set_base_prescaler set_base_counter
base_written_fits {m} {t} {b} {w} {o} f v =
    by_eq (λ n. MachineFit n t v w o) (v / 4 % 4) 2 _ _
    (λ e. base_timer_fits f 0 m.basecounter v (base_ratio_positive v) f.basecounter (λ off. absurd (eqb-false _ _ off e)))
    (λ n. base_timer_fits f 0 0 v (base_ratio_positive v) (omega arith) (λ off. (refl, refl)))

bonding_fits : {m : Machine} {t b w o : ℕ} → MachineFit m t b w o → (u : ℕ) → u % 4 ≡ o % 4 → MachineFit m t b w u
bonding_fits f u e = let k = e ∙ f.bonded in search

pub write_one : (s : State) (a v b : ℕ) → (b ≡ a → ⊥) → at (write_of s a v).memory b ≡ at s.memory b
unfolding write_of
write_one s a v b n = get_or-set_other s.memory a b _ 0 n

-- the cell itself
write_same : {s : State} → Fit s → (a v b : ℕ) → a ≡ b → b < 1024 → at (write_of s a v).memory b ≡ kept_of (at s.memory b) b v
unfolding write_of
write_same {s} f a v b e h = rw e (get_or-set_same s.memory b _ 0 (rw f.memory.size h))

pub write_keeps : {s : State} → Fit s → (a v : ℕ) → v < 16 → Fit (write_of s a v)
unfolding write_of noticed_of load_low_of load_high_of asked_of restarted_of
write_keeps {s} f a v h =
    let l = s.memory in
    let m = f.machine in
    let k = kept_of (at l a) a v in
    let held = kept_held (at l a) a v (f.memory.cells a) in
    let after = store_fits f.memory a k held in
    let stays = write_one s a v in
    let small = cell_small f.memory in
    by_eq (λ n. Fit (state n (set l a k))) a 0x02 _ _
    (λ e. fit_at after (prescaler_fits m 0 _ (ratio_positive _)) refl (stays 0x03 (omega arith)) (stays 0x1E (omega arith)) (stays 0x0C (omega arith)))
    (λ n2. by_eq (λ n. Fit (state n (set l a k))) a 0x03 _ _
    (λ e. fit_at after (base_written_fits m v) (stays 0x02 (omega arith)) (write_same f a v 0x03 e (omega arith) ∙ kept_base _ v (small 0x03) h) (stays 0x1E (omega arith)) (stays 0x0C (omega arith)))
    (λ n3. by_eq (λ n. Fit (state n (set l a k))) a 0x04 _ _
    (λ e. store_keeps (record { memory = f.memory; machine = load_fits m _ (omega arith) }) a k (omega arith) held)
    (λ _. by_eq (λ n. Fit (state n (set l a k))) a 0x05 _ _
    (λ e. store_keeps (record { memory = f.memory; machine = frozen_set_fits (counter_fits (load_fits m _ (omega arith)) _ (omega arith)) released_of released_fits }) a k (omega arith) held)
    (λ _. by_eq (λ n. Fit (state n (set l a k))) a 0x1A _ _
    (λ e. store_keeps (record { memory = f.memory; machine = pending_read_fits m 1 _ (omega arith) (omega arith) (omega arith) }) a k (omega arith) held)
    (λ _. by_eq (λ n. Fit (state n (set l a k))) a 0x1E _ _
    (λ e. fit_at after (watchdog_fits_lem m (period_of v) _ (period_positive v) (rw (kept_control _ v (small 0x1E) h) (le_refl _))) (stays 0x02 (omega arith)) (stays 0x03 (omega arith)) (write_same f a v 0x1E e (omega arith)) (stays 0x0C (omega arith)))
    (λ n1E. test (eqb a 0x0C)
    (λ t. let e = eqb-true a 0x0C t in fit_at after (bonding_fits m _ (kept_bonding _ v (small 0x0C) h)) (stays 0x02 (omega arith)) (stays 0x03 (omega arith)) (stays 0x1E (omega arith)) (write_same f a v 0x0C e (omega arith)))
    (λ t. store_keeps f a k (n2, n3, n1E, eqb-false a 0x0C t) held)))))))
