-- A picture has one byte for each element, 0 or 1, and is dark in STOP and where LCDON is 0.
use mathlib.Core.Path.{◌≡◌, refl}
use mathlib.Core.Bool.{Bool, true, false}
use mathlib.Core.List.{List}
use Prim.Native.Nat.{ℕ, zero, suc, ◌+◌, ◌/◌, ◌%◌, ◌<◌}
use native.Mathlib.Omega.{arith}
use lib.Dec.{eqb}
use lib.ListN.{length, replicate}
use borrow.Author.Tests.{eq-eqb}
use Rattle.lent.specs.Lent.{pick, at}
use Rattle.sh_state.specs.State.{State}
use Rattle.picture.specs.Picture.{bit_of, lit_of, shown_at, element_of, elements_from, shown_of}
use Rattle.picture.proofs.Laws.{shown_length, shown_at_lem}

-- ONE BYTE 0/1 PER ELEMENT
pub one_per_element : (lit : Bool) (memory wiring : List ℕ) → length (shown_of lit memory wiring) ≡ length wiring / 3
one_per_element lit memory wiring = shown_length lit memory wiring

element_bit_lem : (lit : Bool) (memory wiring : List ℕ) (k : ℕ) → element_of lit memory wiring k < 2
unfolding element_of shown_at bit_of
element_bit_lem true memory wiring k = omega arith
element_bit_lem false memory wiring k = omega arith

pub zero_or_one : (lit : Bool) (memory wiring : List ℕ) (k : ℕ) → k < length wiring / 3 → at (shown_of lit memory wiring) k < 2
zero_or_one lit memory wiring k h = rw (shown_at_lem lit memory wiring k h) (element_bit_lem lit memory wiring k)

dark_from : (memory wiring : List ℕ) (n k : ℕ) → elements_from false memory wiring n k ≡ replicate n 0
unfolding elements_from element_of
dark_from memory wiring zero k = refl
dark_from memory wiring (suc n) k = rw (dark_from memory wiring n (k + 1))

-- ALL 0 IN STOP
pub dark_in_stop : (s : State) (wiring : List ℕ) → s.machine.mode ≡ 2 → shown_of (lit_of s) s.memory wiring ≡ replicate (length wiring / 3) 0
unfolding shown_of lit_of
dark_in_stop s wiring e = rw (eq-eqb s.machine.mode 2 e) (dark_from s.memory wiring (length wiring / 3) 0)

either_dark : (t : Bool) → pick t false false ≡ false
either_dark true = refl
either_dark false = refl

-- ALL 0 WHERE LCDON IS 0
pub dark_unlit : (s : State) (wiring : List ℕ) → at s.memory 0x007 / 4 % 2 ≡ 0 → shown_of (lit_of s) s.memory wiring ≡ replicate (length wiring / 3) 0
unfolding shown_of lit_of
dark_unlit s wiring e = rw (e, either_dark (eqb s.machine.mode 2)) (dark_from s.memory wiring (length wiring / 3) 0)
