-- A level that is told lies between -63 and 63, the two digits and the ground determine it, and the code is their octal reading.
use Rattle.std.specs.Prelude.{Err, Ok, Result}
use mathlib.Core.Path.{◌≡◌, ◌∙◌, refl, sym}
use mathlib.Core.Bool.{Bool, true, false, not, cond}
use mathlib.Core.List.{List}
use Prim.Native.Nat.{ℕ, zero, suc, ◌-◌, ◌≤◌}
use native.Mathlib.Omega.{arith}
use lib.Dec.{ltb, eqb}
use lib.IntN.{ℤ, pos, negsuc, ◌-ℤ◌, nat_abs}
use borrow.Author.Tests.{ltb-true, ltb-false}
use Rattle.lent.specs.Lent.{pick, both, at}
use Rattle.lent.proofs.Laws.{both_true}
use Rattle.refusal.specs.declared.Refusal.TheVariants as refusal
use Rattle.sh_map.specs.Map.{askable_of}
use Rattle.body.specs.Body.{high_cell, low_cell, ground_code, level_fits, level_judged}
use Rattle.sh_rules.proofs.Laws.{first_fine}
use Rattle.body.proofs.Fine.{told_fine}
use Rattle.level.specs.Level.{code_of, level_at, level_in, levelled_of, level_of}
use Rattle.refusal.specs.declared.Refusal.{Refusal}

-- the digits, the ground and the level of a level that is told
pub record Told (high low ground : ℕ) (z : ℤ) : Type 0 where
  pub high_digit_lem : high ≤ 7
  pub low_digit_lem : low ≤ 7
  pub ground_code_lem : ground ≤ 63
  pub level : z ≡ pos (code_of high low) -ℤ pos ground

told_digits : (high low ground : ℕ) (z : ℤ) → ground ≤ 63 → level_at high low ground ≡ Ok z → Told high low ground z
unfolding level_at
told_digits high low ground z g e = go (ltb 7 high) (ltb 7 low) refl refl e
  where
    go : (s t : Bool) → ltb 7 high ≡ s → ltb 7 low ≡ t
        → pick s (Err (refusal.Digit 0)) (pick t (Err (refusal.Digit 1)) (Ok (pos (code_of high low) -ℤ pos ground))) ≡ Ok z
        → Told high low ground z
    go true t p q f = cc
    go false true p q f = cc
    go false false p q f = record { high_digit_lem = ltb-false 7 high p; low_digit_lem = ltb-false 7 low q; ground_code_lem = g; level = cc }

levelled_fine : (j : Result (Unit {0}) Refusal) (l : Result ℤ Refusal) (z : ℤ) → levelled_of j l ≡ Ok z → (j ≡ Ok tt) × (l ≡ Ok z)
unfolding levelled_of
levelled_fine (Ok tt) l z e = (refl, e)
levelled_fine (Err why) l z e = (cc, cc)

ground_fine : (body : List ℕ) → level_judged body ≡ Ok tt → ground_code body ≤ 63
unfolding level_judged level_fits
ground_fine body e =
    let t = told_fine _ _ (first_fine _ _ e).1 in
    let a = both (askable_of (high_cell body)) (askable_of (low_cell body)) in
    let d = not (eqb (high_cell body) (low_cell body)) in
    let g = (both_true d (ltb (ground_code body) 64) (both_true a (both d (ltb (ground_code body) 64)) t).1).1 in
    let k = ltb-true (ground_code body) 64 g in
    omega arith

-- what a level that is accepted is told by
pub level_told : (memory body : List ℕ) (z : ℤ) → level_of memory body ≡ Ok z
    → Told (at memory (high_cell body)) (at memory (low_cell body)) (ground_code body) z
unfolding level_of level_in
level_told memory body z e =
    let f = levelled_fine _ _ z e in
    told_digits _ _ _ z (ground_fine body (first_fine _ _ f.0).1) f.1

-- THE DIGITS AND THE GROUND DETERMINE THE LEVEL, whatever else the memory and the body hold
pub level_determined : (m b n d : List ℕ) (y z : ℤ) → level_of m b ≡ Ok y → level_of n d ≡ Ok z
    → at m (high_cell b) ≡ at n (high_cell d) → at m (low_cell b) ≡ at n (low_cell d) → ground_code b ≡ ground_code d → y ≡ z
level_determined m b n d y z e f high low ground =
    (level_told m b y e).level ∙ (rw (high, low, ground) (sym (level_told n d z f).level))

-- a difference of two numbers up to n is at most n from 0
near_by : (t : Bool) (x y n : ℕ) → suc x ≤ n → y ≤ n → nat_abs (cond t (negsuc x) (pos y)) ≤ n
near_by true x y n h k = h
near_by false x y n h k = k

near : (a b n : ℕ) → a ≤ n → b ≤ n → nat_abs (pos a -ℤ pos b) ≤ n
near a zero n h k = omega arith
near a (suc b) n h k = near_by (ltb a (suc b)) (suc b - suc a) (a - suc b) n (omega arith) (omega arith)

-- FROM -63 TO 63
pub level_range : (memory body : List ℕ) (z : ℤ) → level_of memory body ≡ Ok z → nat_abs z ≤ 63
level_range memory body z e =
    let t = level_told memory body z e in
    rw t.level (near (code_of (at memory (high_cell body)) (at memory (low_cell body))) (ground_code body) 63 (omega arith) t.ground_code_lem)

-- the code tells its digits
pub code_tells : (high low high' low' : ℕ) → low ≤ 7 → low' ≤ 7 → code_of high low ≡ code_of high' low' → (high ≡ high') × (low ≡ low')
code_tells high low high' low' h k e = (omega arith, omega arith)
