-- The picture (01, "Panel book"): "one byte 0/1 per element; all 0 when LCDON is 0 or in STOP".
use Rattle.std.specs.Prelude.{ℕ, zero, suc, ◌+◌, ◌/◌, ◌%◌, ◌^◌, Bool, false, List, [], ◌∷◌, ltb, eqb, length, Err, Ok, Result}
use Rattle.lent.specs.Lent.{pick, at, pasted_of}
use Rattle.refusal.specs.declared.Refusal.TheVariants as refusal
use Rattle.sh_rules.specs.Judge.{first_of, state_judged}
use Rattle.sh_state.specs.State.{State}
use Rattle.lent.specs.Outcome.{Outcome, outcome}
use Rattle.body.specs.Body.{element_address, element_bit, wiring_judged}
use Rattle.refusal.specs.Told.{Counted, counted, done_told, refused_told}
use Rattle.refusal.specs.declared.Refusal.{Refusal}

-- a bit of a cell
unfoldable pub bit_of : ℕ → ℕ → ℕ
bit_of v b = v / 2 ^ b % 2

-- LCDON is bit 2 of $007 (003, 3.2); mode 2 is STOP
unfoldable pub lit_of : State → Bool
lit_of s = pick (eqb s.machine.mode 2) false (eqb (at s.memory 0x007 / 4 % 2) 1)

-- what the memory holds for element k
unfoldable pub shown_at : List ℕ → List ℕ → ℕ → ℕ
shown_at memory wiring k = bit_of (at memory (element_address wiring k)) (element_bit wiring k)

unfoldable pub element_of : Bool → List ℕ → List ℕ → ℕ → ℕ
element_of lit memory wiring k = pick lit (shown_at memory wiring k) 0

-- n elements from element k on
unfoldable pub elements_from : Bool → List ℕ → List ℕ → ℕ → ℕ → List ℕ
elements_from lit memory wiring zero k = []
elements_from lit memory wiring (suc n) k = element_of lit memory wiring k ∷ elements_from lit memory wiring n (k + 1)

unfoldable pub shown_of : Bool → List ℕ → List ℕ → List ℕ
shown_of lit memory wiring = elements_from lit memory wiring (length wiring / 3) 0

-- 7, last of all; "Bytes beyond what is written stay"
unfoldable pub draw_of : List ℕ → List ℕ → Outcome (Result ℕ Refusal)
draw_of shown room =
    pick (ltb (length room) (length shown))
    (outcome (Err (refusal.Room (length shown))) room)
    (outcome (Ok (length shown)) (pasted_of room 0 shown))

unfoldable pub drawn_of : Result (Unit {0}) Refusal → List ℕ → List ℕ → Outcome (Result ℕ Refusal)
drawn_of (Ok tt) shown room = draw_of shown room
drawn_of (Err why) shown room = outcome (Err why) room

-- THE PICTURE: 2, 3, 4, 10, 11, then 7; its answer and what the room then holds
unfoldable pub picture_of : State → List ℕ → List ℕ → Outcome (Result ℕ Refusal)
picture_of s wiring room =
    drawn_of (first_of (state_judged s) (wiring_judged wiring)) (shown_of (lit_of s) s.memory wiring) room

-- what is told of a picture: how many elements, beside
unfoldable pub drawn_told : Result ℕ Refusal → ℕ → Counted
drawn_told (Ok n) count = counted done_told n
drawn_told (Err why) count = counted (refused_told why) count
