-- A stretch of quiet cycles, as its loop finds it: what remains of the run is the run of what remains.
use mathlib.Core.Path.{◌≡◌, ◌∙◌, refl, ap, sym, subst}
use mathlib.Core.Bool.{Bool, true, false}
use mathlib.Core.List.{List}
use Prim.Native.Nat.{ℕ, zero, suc, ◌+◌, ◌-◌, ◌%◌, ◌<◌, ◌≤◌}
use native.Mathlib.Nat.{le_refl}
use native.Mathlib.Omega.{arith}
use lib.Dec.{ltb, eqb}
use lib.ListN.{length, drop}
use borrow.Author.Tests.{ltb-true, ltb-false, eqb-true}
use Rattle.lent.specs.Lent.{pick, at, joined_of}
use Rattle.lent.proofs.Laws.{test, by_test, by_choice, never}
use Rattle.lent.proofs.Bits.{joined_above}
use Rattle.sh_state.specs.declared.machine.Machine.{Machine}
use Rattle.sh_state.specs.Record.{set_pc, set_ac, set_cy, set_prescaler, set_counter}
use Rattle.sh_state.specs.State.{State, state}
use Rattle.sh_interrupts.specs.Interrupt.{due_of}
use Rattle.sh_cycle.specs.Cycle.{happened}
use Rattle.sh_events.specs.Event.{event_of}
use Rattle.sh_core.specs.declared.Core.{Core}
use Rattle.sh_core.specs.Quick.{Quick, quickly, core, quick_of}
use Rattle.sh_core.specs.Quick.{core_in}
use Rattle.sh_ticks.specs.Clock.{Quiet, timed_of, room_of}
use Rattle.sh_ticks.proofs.Ticks.{timed_none}
use Rattle.sh_ticks.proofs.Quiet.{Low, quick_low, awake_step, halted_step}
use Rattle.sh_turn.specs.Turn.{Turn, turn, turn_of}
use Rattle.sh_turn.proofs.TurnedQuiet.{Same, Leaves, turn_same, turn_left, turn_unmoved, turn_room, turn_quiet, turn_step}
use Rattle.sh_run.specs.declared.stretch.Stretch.{Stretch}
use Rattle.sh_run.specs.declared.Stop.TheVariants as stop
use Rattle.sh_run.specs.Run.{ran, reached_of, run_of}
use Rattle.sh_run.specs.Stretch.{at_of, quiet_of, on_of, Onward, Cycles, before_of, Going}
use Rattle.sh_run.proofs.Laws.{run_at, run_on}

-- what a quiet machine is tested for
quiet_of_lem : (m : Machine) (l : List ℕ) (room : ℕ) → quiet_of m (due_of l) room ≡ true → Quiet m l (at l 0x02) × (0 < room)
unfolding quiet_of
quiet_of_lem m l room =
    let Is : Bool → Type 0 = λ b. b ≡ true → Quiet m l (at l 0x02) × (0 < room) in
    by_test Is (eqb m.pending 0) _ _
    (λ e. by_test Is (eqb m.address 0) _ _
    (λ f. by_test Is (eqb (due_of l) 0) _ _
    (λ g h. (record { pending = eqb-true _ _ e; address = eqb-true _ _ f; due = eqb-true _ _ g; timer = refl }, ltb-true _ _ h))
    (λ _. never)) (λ _. never)) (λ _. never)

pub quiet_by : {m : Machine} {l : List ℕ} {mode due room : ℕ} {r : Bool} → mode ≡ at l 0x02 → due ≡ due_of l → r ≡ quiet_of m due room → r ≡ true → Quiet m l mode × (0 < room)
quiet_by {m} {l} {mode} {due} {room} a b c d =
    let h : quiet_of m (due_of l) room ≡ true = ap (λ (v : ℕ). quiet_of m v room) (sym b) ∙ (sym c ∙ d) in
    (subst (λ (v : ℕ). Quiet m l v) (sym a) (quiet_of_lem m l room h).0, (quiet_of_lem m l room h).1)

-- PC, AC and CY of the machine that they are of, after no clock
pub begun : (m : Machine) (mode first : ℕ) → 0 < room_of m mode → core_in (timed_of m mode (first - first)) (core m.pc m.ac m.cy true) ≡ m
unfolding core_in set_pc set_cy set_ac
begun m mode first h =
    let e : first - first ≡ 0 = omega arith in
    ap (λ (n : ℕ). core_in (timed_of m mode n) (core m.pc m.ac m.cy true)) e
    ∙ ap (λ (k : Machine). core_in k (core m.pc m.ac m.cy true)) (timed_none m mode h)

pub begun_run : (p : List ℕ) (target : ℕ) (rest : List ℕ) (l : List ℕ) (m : Machine) (mode first n : ℕ) → 0 < room_of m mode → run_of p target rest (state (core_in (timed_of m mode (first - first)) (core m.pc m.ac m.cy true)) l) n ≡ run_of p target rest (state m l) n
begun_run p target rest l m mode first n h = ap (λ (k : Machine). run_of p target rest (state k l) n) (begun m mode first h)

-- PC, AC and CY of the machine stay over clocks
pub slept : (m : Machine) (mode n : ℕ) → core_in (timed_of m mode n) (core m.pc m.ac m.cy true) ≡ timed_of m mode n
unfolding core_in set_pc set_cy set_ac timed_of set_counter set_prescaler
slept m mode n = by_choice (λ (k : Machine). core_in k (core m.pc m.ac m.cy true) ≡ k) (eqb (mode % 8) 7) _ _ refl refl

pub slept_run : (p : List ℕ) (target : ℕ) (rest : List ℕ) (l : List ℕ) (m : Machine) (mode k n : ℕ) → run_of p target rest (state (core_in (timed_of m mode k) (core m.pc m.ac m.cy true)) l) n ≡ run_of p target rest (state (timed_of m mode k) l) n
slept_run p target rest l m mode k n = ap (λ (v : Machine). run_of p target rest (state v l) n) (slept m mode k)

pub begun_halted : (p : List ℕ) (target : ℕ) (rest : List ℕ) (l : List ℕ) (m : Machine) (mode first n : ℕ) → 0 < room_of m mode → run_of p target rest (state (timed_of m mode (first - first)) l) n ≡ run_of p target rest (state m l) n
begun_halted p target rest l m mode first n h = sym (slept_run p target rest l m mode (first - first) n) ∙ begun_run p target rest l m mode first n h

reached_halted : (m : Machine) (mode n target : ℕ) → at_of m.pc target ≡ reached_of (timed_of m mode n) 0x00 target
unfolding reached_of timed_of set_counter set_prescaler
reached_halted m mode n target = by_choice (λ (k : Machine). at_of m.pc target ≡ reached_of k 0x00 target) (eqb (mode % 8) 7) _ _ refl refl

-- What a stretch leaves.
module _ {p : List ℕ} {target : ℕ} {script : List ℕ} {first : ℕ} {s : State} where
  pub paused : {t : State} {n : ℕ} → run_of p target (drop n script) t n ≡ run_of p target (drop first script) s first → first ≤ n → n ≤ length script → Onward p target script first s false t n
  unfolding on_of
  paused e f g = record { same = e; from = f; to = g }

  pub arrived : {t : State} {n : ℕ} → ran t stop.Address n ≡ run_of p target (drop first script) s first → first ≤ n → n ≤ length script → Onward p target script first s true t n
  unfolding on_of
  arrived e f g = record { same = e; from = f; to = g }

  pub standing : first ≤ length script → Onward p target script first s false s first
  standing h = paused refl (le_refl _) h

  -- how the run goes on from it
  pub gone_on : {b : Bool} {t : State} {n : ℕ} → Onward p target script first s b t n → b ≡ false → run_of p target (drop n script) t n ≡ run_of p target (drop first script) s first
  unfolding on_of
  gone_on {t = t} {n = n} o f = sym (ap (λ (k : Bool). pick k (ran t stop.Address n) (run_of p target (drop n script) t n)) f) ∙ o.same

  pub gone_at : {b : Bool} {t : State} {n : ℕ} → Onward p target script first s b t n → b ≡ true → ran t stop.Address n ≡ run_of p target (drop first script) s first
  unfolding on_of
  gone_at {t = t} {n = n} o f = sym (ap (λ (k : Bool). pick k (ran t stop.Address n) (run_of p target (drop n script) t n)) f) ∙ o.same

  pub onward_at : {v u : Stretch} {l : List ℕ} → v ≡ u → Onward p target script first s u.reached (state u.machine l) u.events → Onward p target script first s v.reached (state v.machine l) v.events
  onward_at {l = l} e = subst (λ (k : Stretch). Onward p target script first s k.reached (state k.machine l) k.events) (sym e)

-- the word that was fetched
pub by_word : {r : Quick} {w v : ℕ} (c : Core) (l : List ℕ) → r ≡ quick_of c l w → w ≡ v → r ≡ quick_of c l v
by_word c l p q = p ∙ ap (λ (k : ℕ). quick_of c l k) q

-- a word that went or not
module _ (w : ℕ) (m : Machine) (mode : ℕ) (c : Core) (l : List ℕ) (q : Quiet m l mode) (d : Core) (t : List ℕ) (e : quickly d t ≡ quick_of c l w) where
  low : Low c l (quickly d t)
  low = subst (λ (v : Quick). Low c l v) (sym e) (quick_low c l w)

  pub still_quiet : Quiet m t mode
  unfolding due_of
  still_quiet = record { pending = q.pending; address = q.address; due = rw (low.low 0x00 (omega arith), low.low 0x01 (omega arith)) q.due; timer = low.low 0x02 (omega arith) ∙ q.timer }

module _ (p : List ℕ) (target : ℕ) (script : List ℕ) (m : Machine) (mode first i : ℕ) (k : first ≤ i) (lt : i < length script) (z : at script i ≡ 0) (r : i - first < room_of m mode) where
  -- a word that went
  module _ (c : Core) (l : List ℕ) (q : Quiet m l mode) (d : Core) (t : List ℕ) (e : quickly d t ≡ quick_of c l (at p c.pc)) where
    pub stayed_run : d.went ≡ false → run_of p target (drop i script) (state (core_in (timed_of m mode (i - first)) c) t) i ≡ run_of p target (drop i script) (state (core_in (timed_of m mode (i - first)) c) l) i
    stayed_run f = ap (λ (v : List ℕ). run_of p target (drop i script) (state (core_in (timed_of m mode (i - first)) c) v) i) ((low (at p c.pc) m mode c l q d t e).whole f)

    module _ (g : m.mode ≡ 0) (w : d.went ≡ true) where
      event : happened false (state (core_in (timed_of m mode (i + 1 - first)) d) t) ≡ event_of p (state (core_in (timed_of m mode (i - first)) c) l) (at script i)
      event =
          let n : i + 1 - first ≡ i - first + 1 = omega arith in
          rw (z, n)
          (subst (λ (v : Quick). v.core.went ≡ true → happened false (state (core_in (timed_of m mode (i - first + 1)) v.core) v.memory) ≡ event_of p (state (core_in (timed_of m mode (i - first)) c) l) 0x00) (sym e) (awake_step m mode (i - first) r p c l q g) w)

      reached : at_of d.pc target ≡ reached_of (core_in (timed_of m mode (i + 1 - first)) d) (at script i) target
      unfolding reached_of core_in set_pc
      reached = rw z

      pub awake_on : at_of d.pc target ≡ false → run_of p target (drop (i + 1) script) (state (core_in (timed_of m mode (i + 1 - first)) d) t) (i + 1) ≡ run_of p target (drop i script) (state (core_in (timed_of m mode (i - first)) c) l) i
      awake_on b = run_on p target script _ i lt _ event refl _ reached b

      pub awake_at : at_of d.pc target ≡ true → ran (state (core_in (timed_of m mode (i + 1 - first)) d) t) stop.Address (i + 1) ≡ run_of p target (drop i script) (state (core_in (timed_of m mode (i - first)) c) l) i
      awake_at b = run_at p target script _ i lt _ event refl _ reached b

  -- in HALT
  module _ (l : List ℕ) (q : Quiet m l mode) (g : m.mode ≡ 1) (b : at_of m.pc target ≡ false) where
    event_halted : happened false (state (timed_of m mode (i + 1 - first)) l) ≡ event_of p (state (timed_of m mode (i - first)) l) (at script i)
    event_halted =
        let n : i + 1 - first ≡ i - first + 1 = omega arith in
        rw (z, n) (halted_step m mode (i - first) r p l q g)

    pub halted_on : run_of p target (drop (i + 1) script) (state (timed_of m mode (i + 1 - first)) l) (i + 1) ≡ run_of p target (drop i script) (state (timed_of m mode (i - first)) l) i
    halted_on = run_on p target script _ i lt _ event_halted refl _ (rw z (reached_halted m mode (i + 1 - first) target)) b

-- Cycles that stand in a row.
pub none_yet : (script : List ℕ) (first end : ℕ) → first ≤ end → Cycles script first first end
none_yet script first end h = record { from = le_refl _; to = h; only = λ k a b. absurd (omega arith) }

pub cycles_on : {script : List ℕ} {first i n end : ℕ} → Cycles script first i end → Cycles script i n end → Cycles script first n end
cycles_on {i = i} a b =
    record { from = omega (arith, a.from, b.from); to = b.to; only = λ k h lt. test (ltb k i) (λ t. a.only k h (ltb-true k i t)) (λ t. b.only k (ltb-false k i t) lt) }

pub cycle_here : {script : List ℕ} {i end : ℕ} → i < end → at script i ≡ 0 → Cycles script i (i + 1) end
cycle_here {i = i} h z = record { from = omega arith; to = omega arith; only = λ k a b. let e : k ≡ i = omega arith in rw e z }

-- bytes whose bits taken together are 0 are 0 each
pub many_by : (script : List ℕ) (i end b : ℕ) → i + 64 ≤ end → b ≡ joined_of script i (i + 64 - i) → eqb b 0 ≡ true → Cycles script i (i + 64) end
many_by script i end b h p t =
    record { from = omega arith; to = h; only = λ k a f. omega (arith, joined_above script i (i + 64) k a f, p, eqb-true b 0 t) }

-- In HALT they are Timer0's clocks.
module _ (p : List ℕ) (target : ℕ) (script : List ℕ) (m : Machine) (mode first : ℕ) (l : List ℕ) (q : Quiet m l mode) (g : m.mode ≡ 1) (b : at_of m.pc target ≡ false) (h : 0 < room_of m mode) where
  halted_for : (d : ℕ) → first + d ≤ length script → d ≤ room_of m mode → ((k : ℕ) → first ≤ k → k < first + d → at script k ≡ 0) → run_of p target (drop (first + d) script) (state (timed_of m mode (first + d - first)) l) (first + d) ≡ run_of p target (drop first script) (state m l) first
  halted_for zero s r z = let e : first + 0 ≡ first = omega arith in rw e (begun_halted p target (drop first script) l m mode first first h)
  halted_for (suc d) s r z =
      let e : first + suc d ≡ first + d + 1 = omega arith in
      rw e
      (halted_on p target script m mode first (first + d) (omega arith) (omega arith) (z (first + d) (omega arith) (omega arith)) (omega arith) l q g b
      ∙ halted_for d (omega arith) (omega arith) (λ k a f. z k a (omega arith)))

  pub halted_through : (n end : ℕ) → Cycles script first n end → end ≤ length script → end ≤ first + room_of m mode → run_of p target (drop n script) (state (timed_of m mode (n - first)) l) n ≡ run_of p target (drop first script) (state m l) first
  halted_through n end c s r =
      let e : first + (n - first) ≡ n = omega (arith, c.from) in
      subst (λ (i : ℕ). run_of p target (drop i script) (state (timed_of m mode (i - first)) l) i ≡ run_of p target (drop first script) (state m l) first) e
      (halted_for (n - first) (omega (arith, c.from, c.to)) (omega (arith, c.from, c.to)) (λ k a f. c.only k a (omega arith)))

-- What a stretch in HALT leaves.
pub halted_onward : {p : List ℕ} {target : ℕ} {script : List ℕ} {m : Machine} {mode first : ℕ} {l : List ℕ} {n end : ℕ} → Quiet m l mode → m.mode ≡ 1 → at_of m.pc target ≡ false → 0 < room_of m mode → Cycles script first n end → end ≤ length script → end ≤ first + room_of m mode → Onward p target script first (state m l) false (before_of m mode first (core m.pc m.ac m.cy true) l n) n
halted_onward {p} {target} {script} {m} {mode} {first} {l} {n} {end} q g b h c s r =
    paused (slept_run p target (drop n script) l m mode (n - first) n ∙ halted_through p target script m mode first l q g b h n end c s r) c.from (omega (arith, c.to))

-- What going leaves.
module _ {p : List ℕ} {target : ℕ} {script : List ℕ} {m : Machine} {mode first end : ℕ} {from : Core} {l : List ℕ} {begin : ℕ} where
  pub held_up : {c : Core} {t : List ℕ} {n : ℕ} → run_of p target (drop n script) (before_of m mode first c t n) n ≡ run_of p target (drop begin script) (before_of m mode first from l begin) begin → begin ≤ n → n ≤ end → Quiet m t mode → Going p target script m mode first end from l begin false c t n
  unfolding on_of
  held_up e f g q = record { same = e; from = f; to = g; quiet = q }

  pub got_there : {c : Core} {t : List ℕ} {n : ℕ} → ran (before_of m mode first c t n) stop.Address n ≡ run_of p target (drop begin script) (before_of m mode first from l begin) begin → begin ≤ n → n ≤ end → Quiet m t mode → Going p target script m mode first end from l begin true c t n
  unfolding on_of
  got_there e f g q = record { same = e; from = f; to = g; quiet = q }

  pub going_begun : begin ≤ end → Quiet m l mode → Going p target script m mode first end from l begin false from l begin
  going_begun h q = held_up refl (le_refl _) h q

  -- the next word of going
  module _ (f : first ≤ begin) (h : end ≤ length script) (r : end ≤ first + room_of m mode) {c : Core} {t : List ℕ} {i : ℕ} (g : Going p target script m mode first end from l begin false c t i) (lt : i < end) (z : at script i ≡ 0) {d : Core} {u : List ℕ} (e : quickly d u ≡ quick_of c t (at p c.pc)) where
    pub going_stays : d.went ≡ false → Going p target script m mode first end from l begin false c u i
    unfolding on_of
    going_stays w =
        held_up (stayed_run p target script m mode first i (omega (arith, g.from)) (omega arith) z (omega (arith, g.from)) c t g.quiet d u e w ∙ g.same) g.from g.to (still_quiet _ m mode c t g.quiet d u e)

    pub going_on : m.mode ≡ 0 → d.went ≡ true → (b : Bool) → b ≡ at_of d.pc target → Going p target script m mode first end from l begin b d u (i + 1)
    unfolding on_of
    going_on a w true k =
        got_there (awake_at p target script m mode first i (omega (arith, g.from)) (omega arith) z (omega (arith, g.from)) c t g.quiet d u e a w (sym k) ∙ g.same) (omega (arith, g.from)) (omega arith) (still_quiet _ m mode c t g.quiet d u e)
    going_on a w false k =
        held_up (awake_on p target script m mode first i (omega (arith, g.from)) (omega arith) z (omega (arith, g.from)) c t g.quiet d u e a w (sym k) ∙ g.same) (omega (arith, g.from)) (omega arith) (still_quiet _ m mode c t g.quiet d u e)

-- the word that was fetched
pub by_turn : {r : Turn} {w v : ℕ} (m : Machine) (c : Core) (l : List ℕ) → r ≡ turn_of m c l w → w ≡ v → r ≡ turn_of m c l v
by_turn m c l p q = p ∙ ap (λ (k : ℕ). turn_of m c l k) q

-- a turn that went or not
module _ (w : ℕ) (m : Machine) (c : Core) (l : List ℕ) (n : Machine) (d : Core) (t : List ℕ) (e : turn n d t ≡ turn_of m c l w) where
  pub turned_same : Same m n
  turned_same = subst (λ (v : Turn). Same m v.machine) (sym e) (turn_same m c l w)

  turned_left : Leaves l d.went t
  turned_left = subst (λ (v : Turn). Leaves l v.core.went v.memory) (sym e) (turn_left m c l w)

  turned_unmoved : d.went ≡ false → n ≡ m
  turned_unmoved = subst (λ (v : Turn). v.core.went ≡ false → v.machine ≡ m) (sym e) (turn_unmoved m c l w)

  pub turned_room : (mode : ℕ) → room_of n mode ≡ room_of m mode
  turned_room mode = subst (λ (v : Turn). room_of v.machine mode ≡ room_of m mode) (sym e) (turn_room m c l w mode)

  pub turned_quiet : (mode : ℕ) → Quiet m l mode → due_of t ≡ 0 → Quiet n t mode
  turned_quiet mode q = subst (λ (v : Turn). due_of v.memory ≡ 0 → Quiet v.machine v.memory mode) (sym e) (turn_quiet m c l w mode q)

module _ (p : List ℕ) (target : ℕ) (script : List ℕ) (m : Machine) (mode first i : ℕ) (k : first ≤ i) (lt : i < length script) (z : at script i ≡ 0) (r : i - first < room_of m mode) where
  module _ (c : Core) (l : List ℕ) (q : Quiet m l mode) (n : Machine) (d : Core) (t : List ℕ) (e : turn n d t ≡ turn_of m c l (at p c.pc)) where
    pub stayed_turn : d.went ≡ false → run_of p target (drop i script) (state (core_in (timed_of n mode (i - first)) c) t) i ≡ run_of p target (drop i script) (state (core_in (timed_of m mode (i - first)) c) l) i
    stayed_turn f =
        ap (λ (k : Machine). run_of p target (drop i script) (state (core_in (timed_of k mode (i - first)) c) t) i) (turned_unmoved (at p c.pc) m c l n d t e f)
        ∙ ap (λ (v : List ℕ). run_of p target (drop i script) (state (core_in (timed_of m mode (i - first)) c) v) i) ((turned_left (at p c.pc) m c l n d t e).whole f)

    module _ (g : m.mode ≡ 0) (w : d.went ≡ true) where
      turn_event : happened false (state (core_in (timed_of n mode (i + 1 - first)) d) t) ≡ event_of p (state (core_in (timed_of m mode (i - first)) c) l) (at script i)
      turn_event =
          let j : i + 1 - first ≡ i - first + 1 = omega arith in
          rw (z, j)
          (subst (λ (v : Turn). v.core.went ≡ true → happened false (state (core_in (timed_of v.machine mode (i - first + 1)) v.core) v.memory) ≡ event_of p (state (core_in (timed_of m mode (i - first)) c) l) 0x00) (sym e) (turn_step m mode (i - first) r p c l q g) w)

      turn_reached : at_of d.pc target ≡ reached_of (core_in (timed_of n mode (i + 1 - first)) d) (at script i) target
      unfolding reached_of core_in set_pc
      turn_reached = rw z

      pub turn_on : at_of d.pc target ≡ false → run_of p target (drop (i + 1) script) (state (core_in (timed_of n mode (i + 1 - first)) d) t) (i + 1) ≡ run_of p target (drop i script) (state (core_in (timed_of m mode (i - first)) c) l) i
      turn_on b = run_on p target script _ i lt _ turn_event refl _ turn_reached b

      pub turn_at : at_of d.pc target ≡ true → ran (state (core_in (timed_of n mode (i + 1 - first)) d) t) stop.Address (i + 1) ≡ run_of p target (drop i script) (state (core_in (timed_of m mode (i - first)) c) l) i
      turn_at b = run_at p target script _ i lt _ turn_event refl _ turn_reached b

-- What awake leaves.
pub begun_onward : {p : List ℕ} {target : ℕ} {script : List ℕ} {m : Machine} (mode : ℕ) {first : ℕ} {l : List ℕ} → 0 < room_of m mode → first ≤ length script → Onward p target script first (state m l) false (before_of m mode first (core m.pc m.ac m.cy true) l first) first
begun_onward {p} {target} {script} {m} mode {first} {l} h f = paused (begun_run p target (drop first script) l m mode first first h) (le_refl _) f

module _ {p : List ℕ} {target : ℕ} {script : List ℕ} {mode first : ℕ} {s : State} where
  pub onward_going : {m : Machine} {c d : Core} {t u : List ℕ} {i n end : ℕ} {b : Bool} → Onward p target script first s false (before_of m mode first c t i) i → Going p target script m mode first end c t i b d u n → end ≤ length script → {k : Bool} → b ≡ k → Onward p target script first s k (before_of m mode first d u n) n
  unfolding on_of
  onward_going {m = m} {d = d} {u = u} {n = n} o g h q =
      subst (λ (k : Bool). Onward p target script first s k (before_of m mode first d u n) n) q
      (record { same = g.same ∙ o.same; from = omega (arith, o.from, g.from); to = omega (arith, g.to) })

  -- a turn that went or not
  module _ (m n : Machine) (c d : Core) {t u : List ℕ} {i end : ℕ} (o : Onward p target script first s false (before_of m mode first c t i) i) (lt : i < end) (h : end ≤ length script) (r : end ≤ first + room_of m mode) (z : at script i ≡ 0) (q : Quiet m t mode) (e : turn n d u ≡ turn_of m c t (at p c.pc)) where
    pub onward_stays : d.went ≡ false → Onward p target script first s false (before_of n mode first c u i) i
    unfolding on_of
    onward_stays w =
        paused (stayed_turn p target script m mode first i o.from (omega arith) z (omega (arith, o.from)) c t q n d u e w ∙ o.same) o.from o.to

    pub onward_turn : m.mode ≡ 0 → d.went ≡ true → (b : Bool) → b ≡ at_of d.pc target → Onward p target script first s b (before_of n mode first d u (i + 1)) (i + 1)
    unfolding on_of
    onward_turn a w true k =
        arrived (turn_at p target script m mode first i o.from (omega arith) z (omega (arith, o.from)) c t q n d u e a w (sym k) ∙ o.same) (omega (arith, o.from)) (omega arith)
    onward_turn a w false k =
        paused (turn_on p target script m mode first i o.from (omega arith) z (omega (arith, o.from)) c t q n d u e a w (sym k) ∙ o.same) (omega (arith, o.from)) (omega arith)
