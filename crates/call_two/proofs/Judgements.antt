-- The judgement of a script that is fine.
use Rattle.std.specs.Prelude.{Err, Ok, Option, Result}
use mathlib.Core.Path.{◌≡◌, ◌∙◌, refl, ap, sym}
use mathlib.Core.Bool.{true}
use mathlib.Core.List.{List}
use Prim.Native.Nat.{ℕ, ◌<◌, ◌≤◌}
use borrow.Author.Tests.{lt-ltb, le-ltb}
use Rattle.lent.specs.Outcome.{Outcome}
use Rattle.refusal.specs.declared.Refusal.{Refusal}
use Rattle.refusal.specs.Refusal.{number_of}
use Rattle.picture.specs.Picture.{picture_of}
use Rattle.sh_two.specs.Two as sh
use Rattle.sh_rules.specs.Judge.{first_of}
use Rattle.body.specs.Body.{told, wiring_judged}
use Rattle.call_two.specs.Script.{events_judged, cars_judged, cut_judged, fine_of}
use Rattle.call_two.specs.RunTwo.{ended, Lent, lent, lower_of, lowest_of, script_judged, Answered, answered, left_of, both_left_of, two_judged, ran_of, run_two_of}
use Rattle.call_two.proofs.Scripts.{fine_events, fine_cars, fine_whole}

first_alone : (a : Result (Unit {0}) Refusal) → first_of a (Ok tt) ≡ a
unfolding first_of
first_alone (Ok tt) = refl
first_alone (Err why) = refl

pub fine_judged : (wiring script : List ℕ) {r : Result (Unit {0}) Refusal} → r ≡ wiring_judged wiring → fine_of script ≡ true → r ≡ script_judged wiring script
unfolding script_judged events_judged cars_judged cut_judged told first_of
fine_judged wiring script e h =
    rw (fine_events script 0 refl h, fine_cars script 0 refl h, fine_whole script h) (e ∙ sym (first_alone (wiring_judged wiring)))
