-- The rules of a book's bodies (01, "Panel book"): how long a body of each kind is, which values it holds, and what it is turned down for.
use Rattle.std.specs.Prelude.{ℕ, zero, suc, ◌+◌, ◌*◌, ◌/◌, ◌%◌, Bool, true, false, not, List, ltb, eqb, length, Err, Ok, Result}
use Rattle.lent.specs.Lent.{pick, both, at, pair_at_of}
use Rattle.refusal.specs.declared.Refusal.{Refusal}
use Rattle.refusal.specs.declared.Refusal.TheVariants as refusal
use Rattle.sh_rules.specs.Judge.{first_of}
use Rattle.sh_map.specs.Map.{askable_of, display_of}
use Rattle.body.specs.declared.Kind.{Kind}
use Rattle.body.specs.declared.Kind.TheVariants.{Program, Wiring, Level}

-- "for kinds 1, 2, 3": programs, wirings and levels
abbrev pub kind_number : Kind → ℕ
kind_number Program = 1
kind_number Wiring = 2
kind_number Level = 3

-- "1-240 elements of 3 bytes"
unfoldable pub wiring_length_fits : ℕ → Bool
wiring_length_fits n = pick (eqb (n % 3) 0) (pick (ltb (n / 3) 1) false (ltb (n / 3) 241)) false

-- kind 1: "8,192 bytes"; kind 2: its elements; kind 3: two cells of 2 bytes and the ground code
unfoldable pub length_fits : ℕ → ℕ → Bool
length_fits kind n =
    pick (eqb kind 1) (eqb n 8192) (pick (eqb kind 2) (wiring_length_fits n) (pick (eqb kind 3) (eqb n 5) false))

-- kind 2, element k: "display address, bit"
abbrev pub element_address : List ℕ → ℕ → ℕ
element_address wiring k = pair_at_of wiring (3 * k)

abbrev pub element_bit : List ℕ → ℕ → ℕ
element_bit wiring k = at wiring (3 * k + 2)

-- "display address, bit 0-3"
unfoldable pub element_fits : List ℕ → ℕ → Bool
element_fits wiring k = both (display_of (element_address wiring k)) (ltb (element_bit wiring k) 4)

-- n elements from element k on
unfoldable pub elements_fit : List ℕ → ℕ → ℕ → Bool
elements_fit wiring zero k = true
elements_fit wiring (suc n) k = both (element_fits wiring k) (elements_fit wiring n (k + 1))

unfoldable pub wiring_fits : List ℕ → Bool
wiring_fits wiring = elements_fit wiring (length wiring / 3) 0

-- kind 3: "high-digit cell, low-digit cell (2 bytes each ..), ground code"
abbrev pub high_cell : List ℕ → ℕ
high_cell level = pair_at_of level 0

abbrev pub low_cell : List ℕ → ℕ
low_cell level = pair_at_of level 2

abbrev pub ground_code : List ℕ → ℕ
ground_code level = at level 4

-- "different, each data, display or scan", "ground code 0-63"
unfoldable pub level_fits : List ℕ → Bool
level_fits level =
    both (both (askable_of (high_cell level)) (askable_of (low_cell level)))
    (both (not (eqb (high_cell level) (low_cell level))) (ltb (ground_code level) 64))

-- a judgement by one test
unfoldable pub told : Bool → Refusal → Result (Unit {0}) Refusal
told fits why = pick fits (Ok tt) (Err why)

-- 11 with the body's kind, "in a book the lowest kind"; any program's words are taken
unfoldable pub values_judged : List ℕ → List ℕ → Result (Unit {0}) Refusal
values_judged wiring level =
    first_of (told (wiring_fits wiring) (refusal.Body 2)) (told (level_fits level) (refusal.Body 3))

-- "these .. answer 10 for a wrong body length, 11 for a bad body"
unfoldable pub wiring_judged : List ℕ → Result (Unit {0}) Refusal
wiring_judged wiring =
    first_of (told (length_fits 2 (length wiring)) refusal.Contents) (told (wiring_fits wiring) (refusal.Body 2))

unfoldable pub level_judged : List ℕ → Result (Unit {0}) Refusal
level_judged level =
    first_of (told (length_fits 3 (length level)) refusal.Contents) (told (level_fits level) (refusal.Body 3))
