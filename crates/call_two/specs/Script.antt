-- What a script of two cars is turned down for (02, P5): "27 for a car above 1 and 28 for a cut entry, with the byte's place"; and 5, with the event byte's. The whole script is cut into entries from its front: a byte at an even place is a car, one at an odd place an event.
use Rattle.std.specs.Prelude.{ℕ, ◌-◌, ◌%◌, Bool, true, false, List, [], ◌∷◌, ltb, eqb, length, Err, None, Ok, Option, Result, Some}
use Rattle.lent.specs.Lent.{pick, both}
use Rattle.refusal.specs.declared.Refusal.TheVariants as refusal
use Rattle.sh_known.specs.Known.{known_of}
use Rattle.body.specs.Body.{told}
use Rattle.refusal.specs.declared.Refusal.{Refusal}

-- a byte at an odd place is a known event
unfoldable pub event_fits : ℕ → ℕ → Bool
event_fits i e = pick (eqb (i % 2) 1) (known_of e) true

-- a byte at an even place is a car, 0 or 1
unfoldable pub car_fits : ℕ → ℕ → Bool
car_fits i c = pick (eqb (i % 2) 0) (ltb c 2) true

-- 5: unknown event
unfoldable pub events_judged : Option ℕ → Result (Unit {0}) Refusal
events_judged (Some i) = Err (refusal.UnknownEvent i)
events_judged None = Ok tt

-- 27: a car above 1
unfoldable pub cars_judged : Option ℕ → Result (Unit {0}) Refusal
cars_judged (Some i) = Err (refusal.Car i)
cars_judged None = Ok tt

-- 28: a cut entry
unfoldable pub cut_judged : List ℕ → Result (Unit {0}) Refusal
cut_judged script = told (eqb (length script % 2) 0) (refusal.CutEntry (length script - 1))

-- whether all of it is entries, each a car and a known event: what is found of a good script at once
unfoldable pub fine_of : List ℕ → Bool
fine_of [] = true
fine_of (c ∷ []) = false
fine_of (c ∷ e ∷ script) = both (both (ltb c 2) (known_of e)) (fine_of script)
