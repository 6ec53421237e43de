-- All 65,536 words, computed: a word is listed exactly when it lies in a range that 01 names; 55,814 are listed, the other 9,722 are not.
use Rattle.std.specs.Prelude.{Err, Ok, Result, is_ok}
use mathlib.Core.Path.{◌≡◌, ◌∙◌, refl, sym, ap}
use mathlib.Core.Bool.{Bool, true, false, not, beq}
use Prim.Native.Nat.{ℕ, zero, suc, ◌+◌, ◌^◌, ◌<◌}
use native.Mathlib.Omega.{arith}
use native.Mathlib.Nat.{two-pow-succ}
use Rattle.lent.specs.Lent.{pick}
use Rattle.refusal.specs.Told.{said, done_told}
use Rattle.word.specs.Word.{decode_of, accumulator_of, transfer_of, control_of, decoded_told}
use Rattle.listing.specs.Ranges.{is_listed, listed, within, named_by01, how_many}
use Rattle.word.proofs.Every.{every, every_at}
use Rattle.word.proofs.RoundTrip.{decode_refused}
use Rattle.refusal.specs.declared.Refusal.{Refusal}
use Rattle.word.specs.declared.Instruction.{Instruction}

all_agree : every (λ w. beq (listed w) (named_by01 w)) 16 0 ≡ true
unfolding every decode_of accumulator_of transfer_of control_of within
all_agree = refl

beq_same : (a b : Bool) → beq a b ≡ true → a ≡ b
beq_same true true e = refl
beq_same true false e = sym e
beq_same false true e = e
beq_same false false e = refl

pub listed_named : (w : ℕ) → w < 65536 → listed w ≡ named_by01 w
listed_named w h =
    let z : 0 + w ≡ w = omega arith in
    beq_same (listed w) (named_by01 w) (rw z at (every_at (λ w. beq (listed w) (named_by01 w)) 16 0 w all_agree h))

pub listed_count : how_many listed 16 0 ≡ 55814
unfolding how_many decode_of accumulator_of transfer_of control_of
listed_count = refl

-- what passes a test and what doesn't make up the whole
pass_or_not : (b : Bool) → pick b 1 0 + pick (not b) 1 0 ≡ 1
pass_or_not true = refl
pass_or_not false = refl

how_many_rest : (f : ℕ → Bool) (k b : ℕ) → how_many f k b + how_many (λ n. not (f n)) k b ≡ 2 ^ k
unfolding how_many
how_many_rest f zero b = pass_or_not (f b)
how_many_rest f (suc k) b =
    let p = how_many_rest f k b in
    let q = how_many_rest f k (b + 2 ^ k) in
    let d = two-pow-succ k in
    omega arith

pub unlisted_count : how_many (λ w. not (listed w)) 16 0 ≡ 9722
unlisted_count =
    let p = how_many_rest listed 16 0 in
    let q = listed_count in
    omega arith

-- "Reading an unlisted word also answers 6, with the word"; a word that 01 names is read
pub read_told : (w : ℕ) → w < 65536 → decoded_told (decode_of w) ≡ pick (named_by01 w) done_told (said 6 w)
unfolding decoded_told
read_told w h = by_reading (decode_of w) refl ∙ ap (λ b. pick b done_told (said 6 w)) (listed_named w h)
  where
    by_reading : (d : Result Instruction Refusal) → decode_of w ≡ d → decoded_told (decode_of w) ≡ pick (listed w) done_told (said 6 w)
    by_reading (Ok i) e = rw e
    by_reading (Err why) e = decode_refused w why e ∙ rw e

-- whether a word is read at all
pub named_ok : (w : ℕ) → w < 65536 → is_ok (decode_of w) ≡ named_by01 w
named_ok w h = read (decode_of w) ∙ listed_named w h
  where
    read : (d : Result Instruction Refusal) → is_ok d ≡ is_listed d
    read (Ok i) = refl
    read (Err why) = refl
