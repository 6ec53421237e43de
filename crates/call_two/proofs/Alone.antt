-- EACH CAR BY ITSELF (02, P5): where the call is done, a car's machine, memory, picture and stop reason are what the one-car run and the picture give for its own entries; so they depend on nothing else.
use Rattle.std.specs.Prelude.{Err, None, Ok, Option, Result, Some}
use mathlib.Core.Path.{◌≡◌, ◌∙◌, refl, ap, sym, subst}
use mathlib.Core.Bool.{true, false}
use mathlib.Core.Logic.{◌⊎◌, inl, inr}
use mathlib.Core.List.{List, [], ◌∷◌}
use Prim.Native.Nat.{ℕ, zero, suc, ◌+◌, ◌/◌, ◌%◌, ◌≤◌}
use native.Mathlib.Omega.{arith}
use lib.Dec.{ltb, eqb}
use lib.ListN.{length, take, drop}
use lib.Seq.{take-append_seam}
use borrow.Author.Tests.{ltb-false}
use Rattle.lent.specs.Lent.{pick, fails_from, pasted_of}
use Rattle.lent.specs.Outcome.{outcome}
use Rattle.lent.proofs.Laws.{test, by_test, by_choice, pasted_front}
use Rattle.refusal.specs.declared.Refusal.{Refusal}
use Rattle.refusal.specs.Refusal.{number_of}
use Rattle.sh_state.specs.declared.machine.Machine.{Machine}
use Rattle.sh_state.specs.State.{State}
use Rattle.sh_rules.specs.Judge.{first_of, state_judged}
use Rattle.sh_rules.proofs.Laws.{first_fine}
use Rattle.sh_known.specs.Known.{known_of}
use Rattle.sh_run.specs.declared.Stop.{Stop}
use Rattle.sh_run.specs.Run.{Ran, run_of}
use Rattle.sh_run.proofs.Keeps.{run_judged}
use Rattle.sh_run.specs.declared.Stop.TheVariants as stops
use Rattle.sh_two.specs.Two.{entries_of, Car, car, car_ran, of_car, own_of, start_of, Two, two_of}
use Rattle.sh_two.proofs.Cars.{as_one_car}
use Rattle.call_run.specs.Run.{RunAnswered, reason_of, run_told_of, unknown_from, run_found_of, run_judged_of, run_call_of}
use Rattle.body.specs.Body.{wiring_judged}
use Rattle.body.proofs.Fine.{told_fine}
use Rattle.picture.specs.Picture.{lit_of, shown_of, draw_of, drawn_of, picture_of}
use Rattle.picture.proofs.Pictures.{one_per_element}
use Rattle.call_two.specs.Script.{event_fits, events_judged}
use Rattle.call_two.specs.Statement.{Comes, Alike}
use Rattle.call_two.specs.RunTwo.{ended, Lent, lower_of, lowest_of, cars_lent_judged, script_judged, room_judged, two_judged, Answered, answered, left_of, both_left_of, ran_of, run_two_of}
use Rattle.call_run.specs.declared.Reached.{Reached}
use Rattle.call_two.specs.declared.Ended.{Ended}

-- ---- What a call that is done was judged by ----

-- a judgement turns down, or it does not
refused_not_fine : {A : Type 0} {why : Refusal} → ◌≡◌ {A = Result (Unit {0}) Refusal} (Err why) (Ok tt) → A
refused_not_fine e = let z : ◌≡◌ {A = ℕ} 0 1 = cc in absurd (omega arith)

lower_refuses : {A : Type 0} (v w : Refusal) → lower_of v w ≡ Ok tt → A
unfolding lower_of
lower_refuses {A} v w = by_choice (λ (j : Result (Unit {0}) Refusal). j ≡ Ok tt → A) (ltb (number_of w) (number_of v)) _ _ refused_not_fine refused_not_fine

lowest_both : (a b : Result (Unit {0}) Refusal) → lowest_of a b ≡ Ok tt → (a ≡ Ok tt) × (b ≡ Ok tt)
unfolding lowest_of
lowest_both (Ok tt) b e = (refl, e)
lowest_both (Err v) (Ok tt) e = refused_not_fine e
lowest_both (Err v) (Err w) e = lower_refuses v w e

events_none : (f : Option ℕ) → events_judged f ≡ Ok tt → f ≡ None
unfolding events_judged
events_none (Some i) e = refused_not_fine e
events_none None e = refl

room_enough : (wiring room : List ℕ) → room_judged wiring room ≡ Ok tt → ltb (length room) (length wiring / 3) ≡ false
unfolding room_judged
room_enough wiring room = by_test (λ (j : Result (Unit {0}) Refusal). j ≡ Ok tt → ltb (length room) (length wiring / 3) ≡ false) (ltb (length room) (length wiring / 3)) _ _ (λ _. refused_not_fine) (λ f _. f)

-- what the call was judged by, of either car
record Done (p wiring script : List ℕ) (s : State) (room : List ℕ) : Type 0 where
  words : eqb (length p) 4096 ≡ true
  fit : state_judged s ≡ Ok tt
  known : fails_from event_fits script 0 ≡ None
  wired : wiring_judged wiring ≡ Ok tt
  enough : ltb (length room) (length wiring / 3) ≡ false

of_either : {A : Type 0} (P : A → Type 0) (k : ℕ) (a b : A) → P a → P b → P (of_car k a b)
of_either P zero a b f g = f
of_either P (suc k) a b f g = g

done_of_lem : (k : ℕ) (p wiring : List ℕ) (a b : Lent) (script : List ℕ) → two_judged p wiring a b script ≡ Ok tt → Done p wiring script (of_car k a b).current (of_car k a b).room
unfolding two_judged cars_lent_judged script_judged
done_of_lem k p wiring a b script h =
    let x = first_fine _ _ h in
    let l = first_fine _ _ x.0 in
    let c = lowest_both (state_judged a.current) (state_judged b.current) l.1 in
    let y = first_fine _ _ x.1 in
    let e = first_fine _ _ y.0 in
    let o = first_fine (room_judged wiring a.room) (room_judged wiring b.room) y.1 in
    record {
      words = told_fine (eqb (length p) 4096) _ l.0;
      fit = of_either (λ (v : Lent). state_judged v.current ≡ Ok tt) k a b c.0 c.1;
      known = events_none _ e.0;
      wired = (first_fine _ _ e.1).0;
      enough = room_enough wiring (of_car k a b).room (of_either (λ (v : Lent). room_judged wiring v.room ≡ Ok tt) k a b o.0 o.1);
    }

-- ---- The car's own entries are a script that the one-car run takes ----

found_not_nothing : {A : Type 0} {i : ℕ} → Some i ≡ None → A
found_not_nothing e = let z : ◌≡◌ {A = ℕ} 0 1 = cc in absurd (omega arith)

entry_known : (c e : ℕ) (l : List ℕ) (i : ℕ) → i % 2 ≡ 0 → fails_from event_fits (c ∷ e ∷ l) i ≡ None → (known_of e ≡ true) × (fails_from event_fits l (i + 1 + 1) ≡ None)
unfolding fails_from event_fits
entry_known c e l i z h =
    let o : (i + 1) % 2 ≡ 1 = omega arith in
    let g : pick (known_of e) (fails_from event_fits l (i + 1 + 1)) (Some (i + 1)) ≡ fails_from event_fits (c ∷ e ∷ l) i = rw (z, o) in
    by_test (λ (r : Option ℕ). r ≡ None → (known_of e ≡ true) × (fails_from event_fits l (i + 1 + 1) ≡ None)) (known_of e) _ _ (λ t f. (t, f)) (λ _. found_not_nothing) (g ∙ h)

own_known : (l : List ℕ) (i k j : ℕ) → i % 2 ≡ 0 → fails_from event_fits l i ≡ None → unknown_from (own_of k (entries_of l)) j ≡ None
unfolding entries_of own_of fails_from
own_known [] i k j z h = refl
own_known (c ∷ []) i k j z h = refl
own_known (c ∷ e ∷ l) i k j z h =
    let r = entry_known c e l i z h in
    test (eqb c k) (λ t. rw (t, r.0) (own_known l (i + 1 + 1) k (j + 1) (omega arith) r.1)) (λ f. rw f (own_known l (i + 1 + 1) k j (omega arith) r.1))

module _ (p wiring script : List ℕ) (s : State) (room : List ℕ) (d : Done p wiring script s room) (k stop : ℕ) where
  abbrev own : Ran
  own = run_of p stop (own_of k (entries_of script)) s 0

  one_car_call : run_call_of p s (own_of k (entries_of script)) stop ≡ run_told_of own
  unfolding run_call_of run_judged_of run_found_of
  one_car_call = rw (d.words, d.fit, own_known script 0 k 0 refl d.known)

  -- its state stays well formed, so that the picture is drawn
  drawn : picture_of own.after wiring room ≡ outcome (Ok (length wiring / 3)) (pasted_of room 0 (shown_of (lit_of own.after) own.after.memory wiring))
  unfolding picture_of drawn_of draw_of first_of
  drawn = rw (run_judged p stop (own_of k (entries_of script)) s 0 d.fit, d.wired, one_per_element (lit_of own.after) own.after.memory wiring, d.enough)

  -- the picture stands at the front of the room
  shown_front : take (length wiring / 3) (picture_of own.after wiring room).room ≡ shown_of (lit_of own.after) own.after.memory wiring
  shown_front =
      let shown = shown_of (lit_of own.after) own.after.memory wiring in
      let n = one_per_element (lit_of own.after) own.after.memory wiring in
      let fits : length shown ≤ length room = omega (arith, n, ltb-false (length room) (length wiring / 3) d.enough) in
      rw (drawn, pasted_front room shown fits, ← n) (take-append_seam shown (drop (length shown) room))

module _ (p wiring script : List ℕ) (k stop : ℕ) (before : Lent) (d : Done p wiring script before.current before.room) where
  abbrev ran : Ran
  ran = run_of p stop (own_of k (entries_of script)) before.current 0

  comes_so : Comes p wiring script k stop before ran.why (left_of wiring (car k stop ran.after ran.why) before.room)
  unfolding left_of run_told_of
  comes_so =
      let f = one_car_call p wiring script before.current before.room d k stop in
      let g = drawn p wiring script before.current before.room d k stop in
      record {
        state = sym (ap (λ (o : RunAnswered). o.after) f);
        reason = ap (λ (o : RunAnswered). o.reason) f;
        room = sym (rw g);
        picture = shown_front p wiring script before.current before.room d k stop;
      }

  comes_by : {c : Car} → c ≡ car_ran (car k stop before.current stops.End) ran → Comes p wiring script k stop before c.why (left_of wiring c before.room)
  comes_by e = subst (λ (v : Car). Comes p wiring script k stop before v.why (left_of wiring v before.room)) (sym e) comes_so

comes_at : {p wiring script : List ℕ} {k stop : ℕ} {before left left' : Lent} {why why' : Stop} → why ≡ why' → left' ≡ left → Comes p wiring script k stop before why left → Comes p wiring script k stop before why' left'
comes_at {p} {wiring} {script} {k} {stop} {before} {left} {left'} {why} {why'} e f h = subst (λ (v : Stop). Comes p wiring script k stop before v left') e (subst (λ (v : Lent). Comes p wiring script k stop before why v) (sym f) h)

-- an outcome's reason of one of the cars, where there is any
reason_in : ℕ → Stop → Result Ended Refusal → Stop
reason_in k other (Ok e) = of_car k e.first e.second
reason_in k other (Err why) = other

refused_not_ended : {A : Type 0} {why : Refusal} {v w : Stop} {n : ℕ} → Err why ≡ Ok (ended v w n) → A
refused_not_ended e = let z : ◌≡◌ {A = ℕ} 1 0 = cc in absurd (omega arith)

module _ (p wiring : List ℕ) (a : Lent) (stop : ℕ) (b : Lent) (stop1 : ℕ) (script : List ℕ) where
  abbrev called : Answered
  called = run_two_of p wiring a stop b stop1 script

  abbrev ran_both : Two
  ran_both = two_of p (entries_of script) (start_of stop a.current stop1 b.current) 0

  done_judged : {v w : Stop} {n : ℕ} (j : Result (Unit {0}) Refusal) → (ran_of p wiring a stop b stop1 script j).outcome ≡ Ok (ended v w n) → j ≡ Ok tt
  unfolding ran_of
  done_judged (Ok tt) e = refl
  done_judged (Err why) e = refused_not_ended e

  module _ (v w : Stop) (n : ℕ) (e : called.outcome ≡ Ok (ended v w n)) where
    fine : two_judged p wiring a b script ≡ Ok tt
    unfolding run_two_of
    fine = done_judged (two_judged p wiring a b script) e

    left_both : called ≡ both_left_of wiring ran_both a.room b.room
    unfolding run_two_of ran_of
    left_both = rw fine

    reason_told_lem : (k : ℕ) → reason_in k v (both_left_of wiring ran_both a.room b.room).outcome ≡ of_car k v w
    unfolding reason_in
    reason_told_lem k = ap (λ (o : Result Ended Refusal). reason_in k v o) (sym (ap (λ (r : Answered). r.outcome) left_both) ∙ e)

    left_as_lem : (k : ℕ) → of_car k called.first called.second ≡ of_car k (both_left_of wiring ran_both a.room b.room).first (both_left_of wiring ran_both a.room b.room).second
    left_as_lem k = ap (λ (r : Answered). of_car k r.first r.second) left_both

    -- EITHER CAR, by one law
    pub comes : (k : ℕ) → Comes p wiring script (of_car k 0 1) (of_car k stop stop1) (of_car k a b) (of_car k v w) (of_car k called.first called.second)
    unfolding both_left_of reason_in
    comes k = comes_at (reason_told_lem k) (left_as_lem k) (by_cases k)
      where
        by_cases : (i : ℕ) → Comes p wiring script (of_car i 0 1) (of_car i stop stop1) (of_car i a b) (of_car i ran_both.after.first.why ran_both.after.second.why) (of_car i (both_left_of wiring ran_both a.room b.room).first (both_left_of wiring ran_both a.room b.room).second)
        by_cases zero = comes_by p wiring script 0 stop a (done_of_lem zero p wiring a b script fine) (as_one_car zero p (entries_of script) (start_of stop a.current stop1 b.current) 0 refl)
        by_cases (suc i) = comes_by p wiring script 1 stop1 b (done_of_lem (suc i) p wiring a b script fine) (as_one_car (suc i) p (entries_of script) (start_of stop a.current stop1 b.current) 0 refl)

-- a reason tells its stop
stop_in : Result Reached Refusal → Stop
stop_in (Ok Reached.Address) = stops.Address
stop_in (Ok Reached.End) = stops.End
stop_in (Err why) = stops.Unlisted

stop_back : (why : Stop) (m : Machine) → stop_in (reason_of why m) ≡ why
unfolding reason_of stop_in
stop_back stops.Address m = refl
stop_back stops.Unlisted m = refl
stop_back stops.End m = refl

pub alike : {p wiring script script' : List ℕ} {k stop : ℕ} {before before' : Lent} {why why' : Stop} {left left' : Lent} →
    Comes p wiring script k stop before why left → Comes p wiring script' k stop before' why' left' → before.current ≡ before'.current → own_of k (entries_of script) ≡ own_of k (entries_of script') → Alike wiring why why' left left'
alike {p} {wiring} {script} {script'} {k} {stop} {before} {before'} {why} {why'} {left} {left'} h g e f =
    let q : run_call_of p before.current (own_of k (entries_of script)) stop ≡ run_call_of p before'.current (own_of k (entries_of script')) stop =
    ap (λ (s : State). run_call_of p s (own_of k (entries_of script)) stop) e ∙ ap (λ (l : List ℕ). run_call_of p before'.current l stop) f in
    let same = h.state ∙ (ap (λ (o : RunAnswered). o.after) q ∙ sym g.state) in
    let told = sym h.reason ∙ (ap (λ (o : RunAnswered). o.reason) q ∙ g.reason) in
    record {
      state = same;
      reason = sym (stop_back why left.current.machine) ∙ (ap stop_in told ∙ stop_back why' left'.current.machine);
      picture = h.picture ∙ (ap (λ (s : State). shown_of (lit_of s) s.memory wiring) same ∙ sym g.picture);
    }

-- INDEPENDENCE
pub independent : (k : ℕ) (p wiring : List ℕ)
    (a : Lent) (stop : ℕ) (b : Lent) (stop1 : ℕ) (script : List ℕ) (v w : Stop) (n : ℕ) → (run_two_of p wiring a stop b stop1 script).outcome ≡ Ok (ended v w n) →
    (a' : Lent) (stop' : ℕ) (b' : Lent) (stop1' : ℕ) (script' : List ℕ) (v' w' : Stop) (n' : ℕ) → (run_two_of p wiring a' stop' b' stop1' script').outcome ≡ Ok (ended v' w' n') →
    (of_car k a b).current ≡ (of_car k a' b').current → of_car k stop stop1 ≡ of_car k stop' stop1' → own_of (of_car k 0 1) (entries_of script) ≡ own_of (of_car k 0 1) (entries_of script') →
    let r = run_two_of p wiring a stop b stop1 script in
    let r' = run_two_of p wiring a' stop' b' stop1' script' in
    Alike wiring (of_car k v w) (of_car k v' w') (of_car k r.first r.second) (of_car k r'.first r'.second)
independent k p wiring a stop b stop1 script v w n e a' stop' b' stop1' script' v' w' n' e' start address entries =
    let h = comes p wiring a stop b stop1 script v w n e k in
    let g = comes p wiring a' stop' b' stop1' script' v' w' n' e' k in
    let r = run_two_of p wiring a' stop' b' stop1' script' in
    alike h (subst (λ (t : ℕ). Comes p wiring script' (of_car k 0 1) t (of_car k a' b') (of_car k v' w') (of_car k r.first r.second)) (sym address) g) start entries

-- "before anything moves": what is refused leaves what was lent
module _ (p wiring : List ℕ) (a : Lent) (stop : ℕ) (b : Lent) (stop1 : ℕ) (script : List ℕ) (why : Refusal) where
  judged_leaves : (j : Result (Unit {0}) Refusal) → (ran_of p wiring a stop b stop1 script j).outcome ≡ Err why → ran_of p wiring a stop b stop1 script j ≡ answered (Err why) a b
  unfolding ran_of both_left_of
  judged_leaves (Ok tt) e = refused_not_ended (sym e)
  judged_leaves (Err other) e = ap (λ (o : Result Ended Refusal). answered o a b) e

  pub refused_leaves : (run_two_of p wiring a stop b stop1 script).outcome ≡ Err why → run_two_of p wiring a stop b stop1 script ≡ answered (Err why) a b
  unfolding run_two_of
  refused_leaves = judged_leaves (two_judged p wiring a b script)

-- so in every case a car is left as it was, or as the one-car run leaves it
module _ (p wiring : List ℕ) (a : Lent) (stop : ℕ) (b : Lent) (stop1 : ℕ) (script : List ℕ) where
  abbrev left_as : ℕ → Lent
  left_as k = of_car k (run_two_of p wiring a stop b stop1 script).first (run_two_of p wiring a stop b stop1 script).second

  abbrev LeftOrRun : ℕ → Type 0
  LeftOrRun k = (left_as k ≡ of_car k a b) ⊎ ((left_as k).current ≡ (run_call_of p (of_car k a b).current (own_of (of_car k 0 1) (entries_of script)) (of_car k stop stop1)).after)

  by_outcome : (k : ℕ) (o : Result Ended Refusal) → (run_two_of p wiring a stop b stop1 script).outcome ≡ o → LeftOrRun k
  by_outcome k (Ok d) e = inr (comes p wiring a stop b stop1 script d.first d.second d.entries e k).state
  by_outcome k (Err why) e = inl (ap (λ (r : Answered). of_car k r.first r.second) (refused_leaves p wiring a stop b stop1 script why e))

  pub left_or_run : (k : ℕ) → LeftOrRun k
  left_or_run k = by_outcome k (run_two_of p wiring a stop b stop1 script).outcome refl
