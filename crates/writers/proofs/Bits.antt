-- The test by a word's bits is the test of the instruction that it is read as.
use Rattle.std.specs.Prelude.{Ok, Result}
use mathlib.Core.Path.{◌≡◌, ◌∙◌, refl, sym}
use mathlib.Core.Bool.{Bool, true, false, not}
use Prim.Native.Nat.{ℕ, ◌+◌, ◌-◌, ◌/◌, ◌%◌, ◌^◌, ◌<◌, ◌≤◌}
use native.Mathlib.Omega.{arith}
use lib.Dec.{eqb}
use borrow.Author.Tests.{lt-ltb, le-ltb, ne_eqb, eqb-true, eqb-false}
use Rattle.lent.specs.Lent.{pick, both, at}
use Rattle.lent.proofs.Laws.{test, by_choice, by_eq, by_lt}
use Rattle.word.specs.declared.Instruction.TheVariants.{Immediate, Ldi, Branch, Call, Jmp}
use Rattle.word.specs.Codes.{immediate_of, condition_of}
use Rattle.word.specs.Word.{decode_of, accumulator_of, transfer_of, control_of}
use Rattle.sh_map.proofs.Below.{below, below_at, below_pair}
use Rattle.writers.specs.Test.{names, changing, writes_in, writes_by, writes_of}
use Rattle.writers.specs.Bits.{named_of, rows, row_of, may_of}
use Rattle.refusal.specs.declared.Refusal.{Refusal}
use Rattle.word.specs.declared.Instruction.{Instruction}

-- a bit of a row
abbrev bit : ℕ → ℕ → Bool
bit r k = eqb (r / 2 ^ k % 2) 1

abbrev same : Bool → Bool → Bool
same true b = b
same false b = not b

same_is : (a b : Bool) → same a b ≡ true → a ≡ b
same_is true true e = refl
same_is false false e = refl
same_is true false e = cc
same_is false true e = cc

-- What the rows say, computed.

bank_row : (k : ℕ) → k < 16 → eqb (k / 8) 1 ≡ bit 0xFF00 k
unfolding below
bank_row k h = same_is _ _ (below_at 16 (λ i. same (eqb (i / 8) 1) (bit 0xFF00 i)) k refl h)

full_row : (k : ℕ) → k < 16 → true ≡ bit 0xFFFF k
unfolding below
full_row k h = same_is _ _ (below_at 16 (λ i. same true (bit 0xFFFF i)) k refl h)

empty_row : (k : ℕ) → k < 16 → false ≡ bit 0 k
unfolding below
empty_row k h = same_is _ _ (below_at 16 (λ i. same false (bit 0 i)) k refl h)

decimal_row : (k : ℕ) → k < 16 → pick (eqb k 6) true (eqb k 10) ≡ bit 0x0440 k
unfolding below
decimal_row k h = same_is _ _ (below_at 16 (λ i. same (pick (eqb i 6) true (eqb i 10)) (bit 0x0440 i)) k refl h)

pub bank_rows : (n : ℕ) → n < 8 → at rows n ≡ 0xFF00
unfolding below rows
bank_rows n h = eqb-true _ _ (below_at 8 (λ i. eqb (at rows i) 0xFF00) n refl h)

immediate_rows : (n k : ℕ) → n < 7 → k < 16 → changing (immediate_of (n + 8)) k ≡ bit (at rows (n + 8)) k
unfolding below rows changing immediate_of
immediate_rows n k h l = same_is _ _ (below_pair 7 16 (λ i j. same (changing (immediate_of (i + 8)) j) (bit (at rows (i + 8)) j)) n k refl h l)

last_row : at rows 15 ≡ 0xFFFF
unfolding rows
last_row = refl

-- The two tests, by the code.
module _ (w c : ℕ) where
  -- what a word is read as is tested as its bits are
  abbrev Same : Result Instruction Refusal → Type 0
  Same d = both (names (named_of w) c) (may_of w) ≡ writes_by d c

  both_never : (b : Bool) → both b false ≡ false
  both_never true = refl
  both_never false = refl

  both_always : (b : Bool) → both b true ≡ b
  both_always true = refl
  both_always false = refl

  -- the row's bit decides
  may_is : (r : ℕ) (b : Bool) → row_of (w / 2048) ≡ r → b ≡ bit r (w / 128 % 16) → may_of w ≡ b
  unfolding may_of
  may_is r b e f = rw (e, f)

  bank : w / 2048 < 8 → (named_of w ≡ w % 1024) × (may_of w ≡ eqb (w / 1024 % 2) 1)
  unfolding named_of row_of
  bank h =
      let z : w / 1024 % 2 ≡ w / 128 % 16 / 8 = omega arith in
      (rw (lt-ltb w 0x4000 (omega arith)), rw z (may_is 0xFF00 _ (rw (lt-ltb (w / 2048) 16 (omega arith)) (bank_rows (w / 2048) h)) (bank_row (w / 128 % 16) (omega arith))))

  near : 8 ≤ w / 2048 → named_of w ≡ w % 128
  unfolding named_of
  near h = rw (le-ltb w 0x4000 (omega arith))

  -- with the memory's bit a write, without it none
  halves : (d e : Result Instruction Refusal) (b : Bool) → names (w % 1024) c ≡ writes_by d c → false ≡ writes_by e c → both (names (w % 1024) c) b ≡ writes_by (pick b d e) c
  halves d e true p q = both_always (names (w % 1024) c) ∙ p
  halves d e false p q = both_never (names (w % 1024) c) ∙ q

  accumulators : w / 2048 < 8 → Same (accumulator_of w)
  unfolding accumulator_of writes_by writes_in
  accumulators h = let p = bank h in rw (p.0, p.1) (halves _ _ (eqb (w / 1024 % 2) 1) refl refl)

  transfers : w / 2048 < 8 → Same (transfer_of w)
  unfolding transfer_of writes_by writes_in
  transfers h = let p = bank h in rw (p.0, p.1) (halves _ _ (eqb (w / 1024 % 2) 1) refl refl)

  immediates : 8 ≤ w / 2048 → w / 2048 < 15 → both (names (named_of w) c) (may_of w) ≡ both (names (w % 128) c) (changing (immediate_of (w / 2048)) (w / 128 % 16))
  unfolding row_of
  immediates h k =
      let z : w / 2048 - 8 + 8 ≡ w / 2048 = omega arith in
      let g = immediate_rows (w / 2048 - 8) (w / 128 % 16) (omega arith) (omega arith) in
      rw (near h, may_is (at rows (w / 2048)) _ (rw (lt-ltb (w / 2048) 16 (omega arith))) (rw z at g))

  full : w / 2048 ≡ 15 → both (names (named_of w) c) (may_of w) ≡ names (w % 128) c
  unfolding row_of
  full e =
      rw (near (omega arith), may_is 0xFFFF true (rw e last_row) (full_row (w / 128 % 16) (omega arith))) (both_always (names (w % 128) c))

  none : 16 ≤ w / 2048 → (w / 2048 ≡ 25 → ⊥) → both (names (named_of w) c) (may_of w) ≡ false
  unfolding row_of
  none h n =
      rw (may_is 0 false (rw (le-ltb (w / 2048) 16 h, ne_eqb (w / 2048) 25 n)) (empty_row (w / 128 % 16) (omega arith))) (both_never (names (named_of w) c))

  decimal : w / 2048 ≡ 25 → both (names (named_of w) c) (may_of w) ≡ both (names (w % 128) c) (pick (eqb (w / 128 % 16) 6) true (eqb (w / 128 % 16) 10))
  unfolding row_of
  decimal e = rw (near (omega arith), may_is 0x0440 _ (rw e) (decimal_row (w / 128 % 16) (omega arith)))

  controls : 25 ≤ w / 2048 → Same (control_of w)
  unfolding control_of writes_by writes_in
  controls h =
      by_eq Same (w / 128) 0x196 _ _ (λ e. let k : w / 128 % 16 ≡ 6 = omega arith in decimal (omega arith) ∙ rw k (both_always (names (w % 128) c)))
      (λ n. by_eq Same (w / 128) 0x19A _ _ (λ e. let k : w / 128 % 16 ≡ 10 = omega arith in decimal (omega arith) ∙ rw k (both_always (names (w % 128) c)))
      (λ m.
      let z : both (names (named_of w) c) (may_of w) ≡ false = test (eqb (w / 2048) 25)
      (λ t. let e = eqb-true (w / 2048) 25 t in decimal e ∙ rw (ne_eqb (w / 128 % 16) 6 (omega arith), ne_eqb (w / 128 % 16) 10 (omega arith)) (both_never (names (w % 128) c)))
      (λ t. none (omega arith) (eqb-false (w / 2048) 25 t)) in
      by_choice Same (eqb (w / 256) 0xD0) _ _ z
      (by_choice Same (eqb w 0xD400) _ _ z
      (by_choice Same (eqb w 0xD800) _ _ z
      (by_choice Same (eqb w 0xDC00) _ _ z
      (by_choice Same (eqb w 0xF000) _ _ z
      (by_choice Same (eqb w 0xF7FF) _ _ z
      (by_choice Same (eqb w 0xFFFF) _ _ z z))))))))

  immediate : 8 ≤ w / 2048 → w / 2048 < 15 → Same (Ok (Immediate (immediate_of (w / 2048)) (w % 128) (w / 128 % 16)))
  unfolding writes_by writes_in
  immediate h k = immediates h k

  ldi : w / 2048 ≡ 15 → Same (Ok (Ldi (w % 128) (w / 128 % 16)))
  unfolding writes_by writes_in
  ldi e = full e

  branch : 16 ≤ w / 2048 → (w / 2048 ≡ 25 → ⊥) → Same (Ok (Branch (condition_of (w / 2048)) (w % 2048)))
  unfolding writes_by writes_in
  branch h n = none h n

  call : w / 2048 ≡ 24 → Same (Ok (Call (w % 2048)))
  unfolding writes_by writes_in
  call e = none (omega arith) (omega arith)

  jmp : w / 4096 ≡ 14 → Same (Ok (Jmp (w % 4096)))
  unfolding writes_by writes_in
  jmp e = none (omega arith) (omega arith)

  pub by_bits : both (names (named_of w) c) (may_of w) ≡ writes_of w c
  unfolding writes_of decode_of
  by_bits =
      by_lt Same (w / 2048) 7 _ _ (λ h. accumulators (omega arith))
      (λ h. by_eq Same (w / 2048) 7 _ _ (λ e. transfers (omega arith))
      (λ n. by_lt Same (w / 2048) 15 _ _ (λ k. immediate (omega arith) k)
      (λ k. by_eq Same (w / 2048) 15 _ _ (λ e. ldi e)
      (λ m. by_lt Same (w / 2048) 24 _ _ (λ l. branch (omega arith) (omega arith))
      (λ l. by_eq Same (w / 2048) 24 _ _ (λ e. call e)
      (λ o. by_eq Same (w / 4096) 14 _ _ (λ e. jmp e) (λ p. controls (omega arith))))))))

  -- the same, as a search for a proof reads it
  pub writes_by_bits : writes_of w c ≡ both (names (named_of w) c) (may_of w)
  writes_by_bits = sym by_bits
