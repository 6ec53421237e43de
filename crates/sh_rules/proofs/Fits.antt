-- A well-formed machine, rule by rule (01, "What is lent"): what is judged fine is one, and one is judged fine.
use Rattle.std.specs.Prelude.{Result, Err, None, Ok, Option, Some}
use Rattle.refusal.specs.declared.Refusal.{Refusal}
use mathlib.Core.Path.{◌≡◌, ◌∙◌, refl, sym}
use mathlib.Core.Bool.{Bool, true, false}
use mathlib.Core.List.{List, [], ◌∷◌}
use Prim.Native.Nat.{ℕ, zero, suc, ◌+◌, ◌/◌, ◌%◌, ◌<◌, ◌≤◌}
use native.Mathlib.Omega.{arith}
use native.Mathlib.Nat.{zero-add}
use lib.Dec.{ltb, eqb}
use lib.Bits.{bit_and, and_le_r}
use lib.ListN.{length, set, length-set}
use lib.Seq.{set_out, get_or-set_same, get_or-set_other}
use borrow.Author.Tests.{ltb-true, ltb-false, leb-true, eqb-true, eqb-false, lt-ltb, le-leb, eq-eqb, ne_eqb}
use Rattle.lent.specs.Lent.{pick, both, at, fails_from}
use Rattle.lent.proofs.Laws.{both_true, test, by_eq, at_past}
use Rattle.refusal.specs.declared.Refusal.TheVariants as refusal
use Rattle.sh_state.specs.declared.machine.Machine.{Machine}
use Rattle.sh_map.specs.declared.map.Kind.{Kind}
use Rattle.sh_map.specs.declared.map.Kind.TheVariants.{Register, Data, Display, Scan, Sound, Unmapped}
use Rattle.sh_rules.specs.Judge.{cells_judged, memory_judged, record_judged, first_of, state_judged}
use Rattle.sh_map.specs.Map.{kind_of, register_bits, held_in, held_of}
use Rattle.sh_periods.specs.Periods.{ratios, ratio_of, base_ratios, base_ratio_of, base_on, periods, period_of}
use Rattle.sh_tones.specs.declared.Channels.{Channels}
use Rattle.sh_tones.specs.Tone.{channels_fit}
use Rattle.sh_tones.proofs.Kept.{ChannelsFit, channels_fit_lem, channels_judged}
use Rattle.sh_halves.specs.declared.Frozen.{Frozen}
use Rattle.sh_halves.specs.Halves.{frozen_fits}
use Rattle.sh_halves.proofs.Kept.{FrozenFit, frozen_fit, frozen_judged}
use Rattle.sh_state.specs.Record.{set_pc, set_ac, set_cy, set_mode, set_stack, set_prescaler, set_counter, set_load, set_base_prescaler, set_base_counter, set_watchdog, set_pin_a, set_pin_b, set_pin_c, set_pin_d, set_pending, set_channels, set_frozen, pushed, popped, push_of, pop_of, entry_of}
use Rattle.sh_rules.specs.Rules.{cell_fits, broken_from, cpu_fits, stack_fits, timer0_fits, base_fits, watchdog_fits, bytes_fit, pins_fit, options_fit, pending_fits, ties_fit, well_formed_of}
use Rattle.sh_state.specs.State.{State, state}
use Rattle.sh_rules.proofs.Laws.{first_fine}
use Rattle.sh_map.proofs.Below.{pick_hold, lt_hold, below, below_at}

-- a memory that keeps the memory rules
pub record MemoryFit (l : List ℕ) : Type 0 where
  pub size : length l ≡ 1024
  -- no bit but those that the cell holds; past the end 0 stands
  pub cells : (a : ℕ) → bit_and (at l a) (held_of a) ≡ at l a

-- a record that keeps its rules beside what $002, $003, $01E and $00C hold
pub record MachineFit (m : Machine) (timer base control bonding : ℕ) : Type 0 where
  pub pc : m.pc < 4096
  pub ac : m.ac < 16
  pub cy : m.cy < 2
  pub mode : m.mode < 3
  -- eight entries of 13 bits
  pub levels : length m.stack ≡ 8
  pub entries : (i : ℕ) → at m.stack i < 8192
  -- prescalers lie below their present ratio
  pub prescaler : m.prescaler < ratio_of timer
  pub counter : m.counter < 256
  pub load : m.load < 256
  pub baseprescaler : m.baseprescaler < base_ratio_of base
  pub basecounter : m.basecounter < 256
  -- a disabled base timer holds 0, 0
  pub idle : base_on base ≡ false → (m.baseprescaler ≡ 0) × (m.basecounter ≡ 0)
  -- the watchdog count is 1 up to its period
  pub started : 0 < m.watchdog
  pub watchdog : m.watchdog ≤ period_of control
  pub pina : m.pina < 16
  pub pinb : m.pinb < 16
  pub pinc : m.pinc < 16
  pub pind : m.pind < 16
  pub options : m.options < 8
  -- bits 0-1 of $00C equal the bonding options
  pub bonded : bonding % 4 ≡ m.options / 2
  pub pending : m.pending < 2
  pub address : m.address < 4096
  -- 0 when none is pending
  pub none : m.pending ≡ 0 → m.address ≡ 0
  pub channels : ChannelsFit m.channels
  pub frozen : FrozenFit m.frozen

-- a machine that keeps them all
pub record Fit (s : State) : Type 0 where
  pub memory : MemoryFit s.memory
  pub machine : MachineFit s.machine (at s.memory 0x02) (at s.memory 0x03) (at s.memory 0x1E) (at s.memory 0x0C)

-- no ratio and no period is 0
pub ratio_positive : (mode : ℕ) → 0 < ratio_of mode
unfolding ratio_of ratios below
ratio_positive mode = ltb-true 0 _ (below_at 8 (λ i. ltb 0 (at ratios i)) (mode % 8) refl (omega arith))

pub base_ratio_positive : (mode : ℕ) → 0 < base_ratio_of mode
unfolding base_ratio_of base_ratios below
base_ratio_positive mode = ltb-true 0 _ (below_at 4 (λ i. ltb 0 (at base_ratios i)) (mode % 4) refl (omega arith))

pub period_positive : (control : ℕ) → 0 < period_of control
unfolding period_of periods below
period_positive control = ltb-true 0 _ (below_at 8 (λ i. ltb 0 (at periods i)) (control % 8) refl (omega arith))

-- What a judgement that turns nothing down says.

unbroken_at : (l : List ℕ) (a i : ℕ) → broken_from l a ≡ None → bit_and (at l i) (held_of (a + i)) ≡ at l i
unfolding fails_from cell_fits
unbroken_at [] a i e = refl
unbroken_at (v ∷ l) a zero e =
    let z : a + 0 ≡ a = omega arith in
    by_eq (λ f. f ≡ None → bit_and v (held_of (a + 0)) ≡ v) (bit_and v (held_of a)) v _ _ (λ t f. rw z t) (λ t f. let y : ◌≡◌ {A = ℕ} 0 1 = cc in absurd (omega arith)) e
unbroken_at (v ∷ l) a (suc i) e =
    let z : a + suc i ≡ a + 1 + i = omega arith in
    by_eq (λ f. f ≡ None → bit_and (at l i) (held_of (a + suc i)) ≡ at l i) (bit_and v (held_of a)) v _ _ (λ t f. rw z (unbroken_at l (a + 1) i f)) (λ t f. let y : ◌≡◌ {A = ℕ} 0 1 = cc in absurd (omega arith)) e

pub unbroken : (l : List ℕ) (a : ℕ) → ((i : ℕ) → bit_and (at l i) (held_of (a + i)) ≡ at l i) → broken_from l a ≡ None
unfolding fails_from cell_fits
unbroken [] a h = refl
unbroken (v ∷ l) a h =
    let z : a + 0 ≡ a = omega arith in
    rw (eq-eqb (bit_and v (held_of a)) v (rw z at (h 0))) (unbroken l (a + 1) (λ i. let y : a + suc i ≡ a + 1 + i = omega arith in rw y at (h (suc i))))

cpu_of : (m : Machine) → cpu_fits m ≡ true → (m.pc < 4096) × (m.ac < 16) × (m.cy < 2) × (m.mode < 3)
unfolding cpu_fits
cpu_of m e =
    let p = lt_hold m.pc 4096 _ e in
    let q = lt_hold m.ac 16 _ p.1 in
    let r = lt_hold m.cy 2 _ q.1 in
    (p.0, q.0, r.0, ltb-true m.mode 3 r.1)

stack_of : (s : List ℕ) → stack_fits s ≡ true → (length s ≡ 8) × ((i : ℕ) → at s i < 8192)
unfolding stack_fits below
stack_of s e =
    let p0 = lt_hold (at s 0) 8192 _ e in
    let p1 = lt_hold (at s 1) 8192 _ p0.1 in
    let p2 = lt_hold (at s 2) 8192 _ p1.1 in
    let p3 = lt_hold (at s 3) 8192 _ p2.1 in
    let p4 = lt_hold (at s 4) 8192 _ p3.1 in
    let p5 = lt_hold (at s 5) 8192 _ p4.1 in
    let p6 = lt_hold (at s 6) 8192 _ p5.1 in
    let p7 = lt_hold (at s 7) 8192 _ p6.1 in
    let n = eqb-true (length s) 8 p7.1 in
    let all : below 8 (λ i. ltb (at s i) 8192) ≡ true = simp (lt-ltb, p0.0, p1.0, p2.0, p3.0, p4.0, p5.0, p6.0, p7.0) in (
      n,
      λ i. test (ltb i 8) (λ t. ltb-true (at s i) 8192 (below_at 8 (λ i. ltb (at s i) 8192) i all (ltb-true i 8 t)))
          (λ t. rw (← at_past s i (rw n (ltb-false i 8 t))) (omega arith)),
    )

bytes_of : (m : Machine) → bytes_fit m ≡ true → (m.counter < 256) × (m.load < 256) × (m.basecounter < 256)
unfolding bytes_fit
bytes_of m e =
    let p = lt_hold m.counter 256 _ e in
    let q = lt_hold m.load 256 _ p.1 in
    (p.0, q.0, ltb-true m.basecounter 256 q.1)

pins_of_lem : (m : Machine) → pins_fit m ≡ true → (m.pina < 16) × (m.pinb < 16) × (m.pinc < 16) × (m.pind < 16)
unfolding pins_fit
pins_of_lem m e =
    let p = lt_hold m.pina 16 _ e in
    let q = lt_hold m.pinb 16 _ p.1 in
    let r = lt_hold m.pinc 16 _ q.1 in
    (p.0, q.0, r.0, ltb-true m.pind 16 r.1)

pending_of : (m : Machine) → pending_fits m ≡ true → (m.pending < 2) × (m.address < 4096) × (m.pending ≡ 0 → m.address ≡ 0)
unfolding pending_fits
pending_of m =
    by_eq (λ r. r ≡ true → (m.pending < 2) × (m.address < 4096) × (m.pending ≡ 0 → m.address ≡ 0)) m.pending 0 _ _
    (λ t e. let a = eqb-true m.address 0 e in (omega arith, omega arith, λ z. a))
    (λ t e.
    let p = pick_hold (eqb m.pending 1) _ e in
    (omega (arith, eqb-true m.pending 1 p.0), ltb-true m.address 4096 p.1, λ z. absurd (t z)))

base_of_lem : (m : Machine) (mode : ℕ) → base_fits m mode ≡ true → (m.baseprescaler < base_ratio_of mode) × (base_on mode ≡ false → (m.baseprescaler ≡ 0) × (m.basecounter ≡ 0))
unfolding base_fits
base_of_lem m mode =
    by_eq (λ r. r ≡ true → (m.baseprescaler < base_ratio_of mode) × (base_on mode ≡ false → (m.baseprescaler ≡ 0) × (m.basecounter ≡ 0))) (mode / 4 % 4) 2 _ _
    (λ t e. (ltb-true m.baseprescaler (base_ratio_of mode) e, λ off. absurd (eqb-false (mode / 4 % 4) 2 off t)))
    (λ t e.
    let p = pick_hold (eqb m.baseprescaler 0) _ e in
    let z = eqb-true m.baseprescaler 0 p.0 in
    (omega (arith, base_ratio_positive mode), λ off. (z, eqb-true m.basecounter 0 p.1)))

watchdog_of : (m : Machine) (control : ℕ) → watchdog_fits m control ≡ true → (0 < m.watchdog) × (m.watchdog ≤ period_of control)
unfolding watchdog_fits
watchdog_of m control =
    by_eq (λ r. r ≡ true → (0 < m.watchdog) × (m.watchdog ≤ period_of control)) m.watchdog 0 _ _
    (λ t e. let z : ◌≡◌ {A = ℕ} 0 1 = cc in absurd (omega arith))
    (λ t e. (omega arith, leb-true m.watchdog (period_of control) e))

options_of : (m : Machine) (bonding : ℕ) → options_fit m bonding ≡ true → (m.options < 8) × (bonding % 4 ≡ m.options / 2)
unfolding options_fit
options_of m bonding e = let p = lt_hold m.options 8 _ e in (p.0, eqb-true (bonding % 4) (m.options / 2) p.1)

machine_of : (s : State) → well_formed_of s ≡ true → MachineFit s.machine (at s.memory 0x02) (at s.memory 0x03) (at s.memory 0x1E) (at s.memory 0x0C)
unfolding well_formed_of ties_fit timer0_fits
machine_of s e =
    let m = s.machine in
    let p = both_true (both (cpu_fits m) (stack_fits m.stack)) _ e in
    let q = both_true (cpu_fits m) (stack_fits m.stack) p.0 in
    let r = both_true (both (bytes_fit m) (pins_fit m)) _ p.1 in
    let u = both_true (bytes_fit m) (pins_fit m) r.0 in
    let v = both_true (both (pending_fits m) (both (channels_fit m.channels) (frozen_fits m.frozen))) _ r.1 in
    let k = both_true (pending_fits m) (both (channels_fit m.channels) (frozen_fits m.frozen)) v.0 in
    let h = both_true (channels_fit m.channels) (frozen_fits m.frozen) k.1 in
    let w = both_true (timer0_fits m (at s.memory 0x02)) _ v.1 in
    let x = both_true (base_fits m (at s.memory 0x03)) _ w.1 in
    let y = both_true (watchdog_fits m (at s.memory 0x1E)) (options_fit m (at s.memory 0x0C)) x.1 in
    let cpu = cpu_of m q.0 in
    let stack = stack_of m.stack q.1 in
    let bytes = bytes_of m u.0 in
    let pins = pins_of_lem m u.1 in
    let pending = pending_of m k.0 in
    let channels = channels_fit_lem m.channels h.0 in
    let frozen = frozen_fit m.frozen h.1 in
    let timer = ltb-true m.prescaler (ratio_of (at s.memory 0x02)) w.0 in
    let base = base_of_lem m (at s.memory 0x03) x.0 in
    let dog = watchdog_of m (at s.memory 0x1E) y.0 in
    let options = options_of m (at s.memory 0x0C) y.1 in
    search

memory_of : (l : List ℕ) → memory_judged l ≡ Ok tt → MemoryFit l
unfolding memory_judged cells_judged
memory_of l =
    by_eq (λ r. r ≡ Ok tt → MemoryFit l) (length l) 1024 _ _ (λ t e. record { size = t; cells = λ a. rw zero-add at (unbroken_at l 0 a (nothing (broken_from l 0) e)) })
    (λ t e. let z : ◌≡◌ {A = ℕ} 0 1 = cc in absurd (omega arith))
  where
    nothing : (f : Option ℕ) → cells_judged f ≡ Ok tt → f ≡ None
    nothing None e = refl
    nothing (Some a) e = cc

pub fit_of : (s : State) → state_judged s ≡ Ok tt → Fit s
unfolding state_judged record_judged
fit_of s e =
    let p = first_fine (memory_judged s.memory) (record_judged s) e in
    record { memory = memory_of s.memory p.0; machine = machine_of s (fine (well_formed_of s) p.1) }
  where
    fine : (b : Bool) → ◌≡◌ {A = Result (Unit {0}) Refusal} (pick b (Ok tt) (Err refusal.Record)) (Ok tt) → b ≡ true
    fine true e = refl
    fine false e = cc

-- A well-formed machine is judged fine.

stack_fits_lem : (s : List ℕ) → length s ≡ 8 → ((i : ℕ) → at s i < 8192) → stack_fits s ≡ true
unfolding stack_fits
stack_fits_lem s n h = simp (lt-ltb, h, n)

module _ {m : Machine} {t b w o : ℕ} (f : MachineFit m t b w o) where
  cpu_fits_lem : cpu_fits m ≡ true
  unfolding cpu_fits
  cpu_fits_lem = search lt-ltb

  bytes_fit_lem : bytes_fit m ≡ true
  unfolding bytes_fit
  bytes_fit_lem = search lt-ltb

  pins_fit_lem : pins_fit m ≡ true
  unfolding pins_fit
  pins_fit_lem = search lt-ltb

  pending_fits_lem : pending_fits m ≡ true
  unfolding pending_fits
  pending_fits_lem =
      by_eq (λ r. r ≡ true) m.pending 0 _ _ (λ e. eq-eqb m.address 0 (f.none e))
      (λ n. let e : m.pending ≡ 1 = omega arith in rw (eq-eqb m.pending 1 e) (lt-ltb m.address 4096 f.address))

  base_fits_lem : base_fits m b ≡ true
  unfolding base_fits
  base_fits_lem =
      by_eq (λ r. r ≡ true) (b / 4 % 4) 2 _ _ (λ e. lt-ltb m.baseprescaler (base_ratio_of b) f.baseprescaler)
      (λ n. let z = f.idle (ne_eqb (b / 4 % 4) 2 n) in rw (eq-eqb m.baseprescaler 0 z.0) (eq-eqb m.basecounter 0 z.1))

  ties_fit_lem : both (timer0_fits m t) (both (base_fits m b) (both (watchdog_fits m w) (options_fit m o))) ≡ true
  unfolding timer0_fits watchdog_fits options_fit
  ties_fit_lem = rw (base_fits_lem, ne_eqb m.watchdog 0 (omega arith)) (search (lt-ltb, le-leb, eq-eqb))

pub judged_of : {s : State} → Fit s → state_judged s ≡ Ok tt
unfolding state_judged record_judged memory_judged cells_judged first_of well_formed_of ties_fit
judged_of {s} f =
    let g = f.machine in
    rw (eq-eqb (length s.memory) 1024 f.memory.size, unbroken s.memory 0 (λ a. rw zero-add (f.memory.cells a)), cpu_fits_lem g, stack_fits_lem s.machine.stack g.levels g.entries, bytes_fit_lem g, pins_fit_lem g, pending_fits_lem g, channels_judged s.machine.channels g.channels, frozen_judged s.machine.frozen g.frozen, ties_fit_lem g)

-- What the cells of a well-formed memory hold.

register_bits_small : (a : ℕ) → at register_bits a < 16
unfolding register_bits below
register_bits_small a =
    test (ltb a 32) (λ t. ltb-true _ 16 (below_at 32 (λ i. ltb (at register_bits i) 16) a refl (ltb-true a 32 t)))
    (λ t. rw (← at_past register_bits a (ltb-false a 32 t)) (omega arith))

held_in_small : (k : Kind) (a : ℕ) → held_in k a < 16
unfolding held_in
held_in_small Register a = register_bits_small a
held_in_small Data a = omega arith
held_in_small Display a = omega arith
held_in_small Scan a = omega arith
held_in_small Sound a = omega arith
held_in_small Unmapped a = omega arith

held_small : (a : ℕ) → held_of a < 16
unfolding held_of
held_small a = held_in_small (kind_of a) a

module _ {l : List ℕ} (f : MemoryFit l) (a : ℕ) where
  pub cell_held : at l a ≤ held_of a
  cell_held = rw (← f.cells a) (and_le_r (at l a) (held_of a))

  pub cell_small : at l a < 16
  cell_small = omega (arith, cell_held, held_small a)

-- what holds of a stored value and of what stood before holds of what stands after
after_set : (P : ℕ → Type 0) (l : List ℕ) (a v b : ℕ) → (b ≡ a → P v) → P (at l b) → P (at (set l a v) b)
after_set P l a v b new old =
    test (eqb b a)
    (λ t. let e = eqb-true b a t in test (ltb a (length l)) (λ u. rw (e, get_or-set_same l a v 0 (ltb-true _ _ u)) (new e)) (λ u. rw (set_out l a v (ltb-false _ _ u)) old))
    (λ t. rw (get_or-set_other l a b v 0 (eqb-false b a t)) old)

-- a store of bits that the cell holds
pub store_fits : {l : List ℕ} → MemoryFit l → (a v : ℕ) → bit_and v (held_of a) ≡ v → MemoryFit (set l a v)
store_fits {l} f a v h =
    record { size = length-set l a v ∙ f.size; cells = λ b. after_set (λ n. bit_and n (held_of b) ≡ n) l a v b (λ e. rw e h) (f.cells b) }

-- A field set within its rule leaves a record well formed, beside the new value of the register that it is tied to.
module _ {m : Machine} {t b w o : ℕ} (f : MachineFit m t b w o) (v : ℕ) where
  pub pc_fits : v < 4096 → MachineFit (set_pc m v) t b w o
  unfolding set_pc
  pc_fits h = search

  pub ac_fits : v < 16 → MachineFit (set_ac m v) t b w o
  unfolding set_ac
  ac_fits h = search

  pub cy_fits : v < 2 → MachineFit (set_cy m v) t b w o
  unfolding set_cy
  cy_fits h = search

  pub mode_fits : v < 3 → MachineFit (set_mode m v) t b w o
  unfolding set_mode
  mode_fits h = search

  pub prescaler_fits : (u : ℕ) → v < ratio_of u → MachineFit (set_prescaler m v) u b w o
  unfolding set_prescaler
  prescaler_fits u h = search

  pub counter_fits : v < 256 → MachineFit (set_counter m v) t b w o
  unfolding set_counter
  counter_fits h = search

  pub load_fits : v < 256 → MachineFit (set_load m v) t b w o
  unfolding set_load
  load_fits h = search

  pub base_timer_fits : (c u : ℕ) → v < base_ratio_of u → c < 256 → (base_on u ≡ false → (v ≡ 0) × (c ≡ 0)) → MachineFit (set_base_counter (set_base_prescaler m v) c) t u w o
  unfolding set_base_prescaler set_base_counter
  base_timer_fits c u h k i = search

  pub watchdog_fits_lem : (u : ℕ) → 0 < v → v ≤ period_of u → MachineFit (set_watchdog m v) t b u o
  unfolding set_watchdog
  watchdog_fits_lem u h k = search

  pub pin_a_fits : v < 16 → MachineFit (set_pin_a m v) t b w o
  unfolding set_pin_a
  pin_a_fits h = search

  pub pin_b_fits : v < 16 → MachineFit (set_pin_b m v) t b w o
  unfolding set_pin_b
  pin_b_fits h = search

  pub pin_c_fits : v < 16 → MachineFit (set_pin_c m v) t b w o
  unfolding set_pin_c
  pin_c_fits h = search

  pub pin_d_fits : v < 16 → MachineFit (set_pin_d m v) t b w o
  unfolding set_pin_d
  pin_d_fits h = search

  pub pending_read_fits : (a : ℕ) → v < 2 → a < 4096 → (v ≡ 0 → a ≡ 0) → MachineFit (set_pending m v a) t b w o
  unfolding set_pending
  pending_read_fits a h k z = search

pub channels_set_fits : {m : Machine} {t b w o : ℕ} → MachineFit m t b w o → (c : Channels) → ChannelsFit c → MachineFit (set_channels m c) t b w o
unfolding set_channels
channels_set_fits f c h = search

pub frozen_set_fits : {m : Machine} {t b w o : ℕ} → MachineFit m t b w o → (r : Frozen) → FrozenFit r → MachineFit (set_frozen m r) t b w o
unfolding set_frozen
frozen_set_fits f r h = search

pub stack_set_fits : {m : Machine} {t b w o : ℕ} → MachineFit m t b w o → (s : List ℕ) → length s ≡ 8 → ((i : ℕ) → at s i < 8192) → MachineFit (set_stack m s) t b w o
unfolding set_stack
stack_set_fits f s n h = search

-- the stack, the newest entry first
module _ {m : Machine} {t b w o : ℕ} (f : MachineFit m t b w o) where
  pub push_fits : (v : ℕ) → v < 8192 → MachineFit (push_of m v) t b w o
  unfolding push_of stack_fits
  push_fits v h = let p = stack_of (pushed v m.stack) (simp (lt-ltb, h, f.entries)) in stack_set_fits f (pushed v m.stack) p.0 p.1

  pub pop_fits : MachineFit (pop_of m) t b w o
  unfolding pop_of stack_fits
  pop_fits = let p = stack_of (popped m.stack) (simp (lt-ltb, f.entries)) in stack_set_fits f (popped m.stack) p.0 p.1

pub entry_small : (cy pc : ℕ) → entry_of cy pc < 8192
unfolding entry_of
entry_small cy pc = omega arith

-- a machine by its parts
pub fit_at : {m : Machine} {l : List ℕ} {t b w o : ℕ} → MemoryFit l → MachineFit m t b w o
    → at l 0x02 ≡ t → at l 0x03 ≡ b → at l 0x1E ≡ w → at l 0x0C ≡ o → Fit (state m l)
fit_at f g p q r s = record { memory = f; machine = rw (p, q, r, s) g }

-- a cell that no rule of the record is tied to
abbrev pub Untied : ℕ → Type 0
Untied a = (a ≡ 0x02 → ⊥) × (a ≡ 0x03 → ⊥) × (a ≡ 0x1E → ⊥) × (a ≡ 0x0C → ⊥)

pub store_keeps : {m : Machine} {l : List ℕ} → Fit (state m l) → (a v : ℕ) → Untied a → bit_and v (held_of a) ≡ v → Fit (state m (set l a v))
store_keeps {l = l} f a v n h =
    let stays : (b : ℕ) → (a ≡ b → ⊥) → at (set l a v) b ≡ at l b = λ b k. get_or-set_other l a b v 0 (λ e. k (sym e)) in
    fit_at (store_fits f.memory a v h) f.machine (stays 0x02 n.0) (stays 0x03 n.1) (stays 0x1E n.2) (stays 0x0C n.3)
