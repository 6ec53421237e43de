-- A reset keeps a well-formed machine well formed, and a fresh machine is well formed.
use mathlib.Core.Path.{◌≡◌, ◌∙◌, refl}
use mathlib.Core.List.{List, [], ◌∷◌}
use Prim.Native.Nat.{ℕ, zero, suc, ◌+◌, ◌/◌, ◌%◌, ◌<◌}
use native.Mathlib.Omega.{arith}
use native.Mathlib.Nat.{zero-add}
use lib.Dec.{ltb, eqb}
use lib.Bits.{bit_and, and_zero_r}
use lib.ListN.{length, replicate, length-replicate}
use borrow.Author.Tests.{ltb-true, ltb-false, eqb-true}
use Rattle.lent.specs.Lent.{at, map_from}
use Rattle.lent.proofs.Laws.{test, by_eq, at_past}
use Rattle.sh_map.specs.Map.{kind_of, register_bits, held_in, held_of}
use Rattle.sh_periods.specs.Periods.{periods, period_of}
use Rattle.sh_tones.proofs.Kept.{silent_fits}
use Rattle.sh_halves.proofs.Kept.{released_fits}
use Rattle.sh_state.specs.Record.{fresh_of}
use Rattle.sh_state.specs.State.{State, state}
use Rattle.sh_map.proofs.Below.{below, below_pair}
use Rattle.sh_map.proofs.Within.{joined_within, cut_by_within, nibble_within}
use Rattle.sh_rules.proofs.Fits.{Fit, MemoryFit, MachineFit, ratio_positive, base_ratio_positive, cell_small, pin_a_fits, pin_b_fits, pin_c_fits, pin_d_fits}
use Rattle.sh_reset.specs.declared.reset.Column.{Column}
use Rattle.sh_reset.specs.declared.reset.Column.TheVariants.{Pin, Watchdog}
use Rattle.sh_reset.specs.Reset.{register_stays, stays_in, rises_of, sets_of, reset_cell_of, reset_memory_of, pins_of, reset_record_of, reset_of}
use Rattle.sh_reset.proofs.Laws.{zeros_at}

-- A map by place: its length, and what stands at a place.

map_length : (f : ℕ → ℕ → ℕ) (l : List ℕ) (i : ℕ) → length (map_from f l i) ≡ length l
unfolding map_from
map_length f [] i = refl
map_length f (v ∷ l) i = rw (map_length f l (i + 1))

map_at : (f : ℕ → ℕ → ℕ) (l : List ℕ) (i a : ℕ) → a < length l → at (map_from f l i) a ≡ f (i + a) (at l a)
unfolding map_from
map_at f [] i a h = absurd (omega arith)
map_at f (v ∷ l) i zero h = let e : i + 0 ≡ i = omega arith in rw e
map_at f (v ∷ l) i (suc a) h = let e : i + suc a ≡ i + 1 + a = omega arith in rw e (map_at f l (i + 1) a (omega arith))

-- what a reset sets, a cell can hold
rises_held : (c : Column) (a : ℕ) → bit_and (rises_of c a) (held_of a) ≡ rises_of c a
unfolding rises_of held_of held_in kind_of register_bits
rises_held Pin a = by_eq (λ v. bit_and v (held_of a) ≡ v) a 0x13 _ _ (λ e. rw e) (λ n. refl)
rises_held Watchdog a = by_eq (λ v. bit_and v (held_of a) ≡ v) a 0x1E _ _ (λ e. rw e) (λ n. refl)

sets_held : (c : Column) (o a : ℕ) → bit_and (sets_of c o a) (held_of a) ≡ sets_of c o a
unfolding sets_of held_of held_in kind_of register_bits
sets_held c o a = by_eq (λ v. bit_and v (held_of a) ≡ v) a 0x0C _ _ (λ e. rw e (nibble_within _ _ (omega arith) refl)) (λ n. rises_held c a)

module _ (c : Column) (o : ℕ) {l : List ℕ} (f : MemoryFit l) where
  pub reset_at : (a : ℕ) → a < 1024 → at (reset_memory_of c o l) a ≡ reset_cell_of c o a (at l a)
  unfolding reset_memory_of
  reset_at a h = map_at (reset_cell_of c o) l 0 a (rw f.size h) ∙ rw zero-add

  pub reset_size : length (reset_memory_of c o l) ≡ 1024
  unfolding reset_memory_of
  reset_size = map_length (reset_cell_of c o) l 0 ∙ f.size

  reset_memory_fits : MemoryFit (reset_memory_of c o l)
  unfolding reset_cell_of
  reset_memory_fits = record {
    size = reset_size;
    cells = λ a.
        test (ltb a 1024)
        (λ t. rw (reset_at a (ltb-true a 1024 t)) (joined_within _ _ (held_of a) (cut_by_within (at l a) _ (held_of a) (f.cells a)) (sets_held c o a)))
        (λ t. rw (← at_past (reset_memory_of c o l) a (rw reset_size (ltb-false a 1024 t))));
  }

-- the watchdog's longest period, and the bonding bits, after a reset
reset_period : (c : Column) (o v : ℕ) → period_of (reset_cell_of c o 0x1E v) ≡ 4096
unfolding reset_cell_of stays_in register_stays kind_of sets_of rises_of period_of periods
reset_period Pin o v = rw (and_zero_r v)
reset_period Watchdog o v = rw (and_zero_r v)

reset_bonding : (c : Column) (o v : ℕ) → v < 16 → o < 8 → reset_cell_of c o 0x0C v % 4 ≡ o / 2
unfolding reset_cell_of stays_in register_stays kind_of sets_of below
reset_bonding Pin o v h k = eqb-true _ _ (below_pair 16 8 (λ v o. eqb (reset_cell_of Pin o 0x0C v % 4) (o / 2)) v o refl h k)
reset_bonding Watchdog o v h k = eqb-true _ _ (below_pair 16 8 (λ v o. eqb (reset_cell_of Watchdog o 0x0C v % 4) (o / 2)) v o refl h k)

fresh_record_fits : (o t b w c : ℕ) → o < 8 → period_of w ≡ 4096 → c % 4 ≡ o / 2 → MachineFit (fresh_of o) t b w c
unfolding fresh_of
fresh_record_fits o t b w c h p q =
    let entries : (i : ℕ) → at (replicate {A = ℕ} 8 0) i < 8192 = λ i. rw (← zeros_at 8 i) (omega arith) in
    search (ratio_positive, base_ratio_positive, silent_fits, released_fits, arith)

-- a fresh record beside a memory that was reset
fresh_beside : (c : Column) (o : ℕ) {l : List ℕ} → o < 8 → MemoryFit l → Fit (state (fresh_of o) (reset_memory_of c o l))
fresh_beside c o {l} h f =
    let r = reset_memory_of c o l in
    record {
      memory = reset_memory_fits c o f;
      machine =
          fresh_record_fits o (at r 0x02) (at r 0x03) (at r 0x1E) (at r 0x0C) h (rw (reset_at c o f 0x1E (omega arith)) (reset_period c o _))
          (rw (reset_at c o f 0x0C (omega arith)) (reset_bonding c o _ (cell_small f 0x0C) h));
    }

pub reset_keeps : (c : Column) {s : State} → Fit s → Fit (reset_of c s)
unfolding reset_of reset_record_of pins_of
reset_keeps c {s} f =
    let g = f.machine in
    let fresh = fresh_beside c s.machine.options g.options f.memory in
    record { memory = fresh.memory; machine = pin_a_fits (pin_b_fits (pin_c_fits (pin_d_fits fresh.machine _ g.pind) _ g.pinc) _ g.pinb) _ g.pina }

pub fresh_fits : (o : ℕ) → o < 8 → Fit (state (fresh_of o) (reset_memory_of Pin o (replicate 1024 0)))
fresh_fits o h = fresh_beside Pin o h (record { size = length-replicate {A = ℕ} 1024 0; cells = λ a. rw (← zeros_at 1024 a) })
