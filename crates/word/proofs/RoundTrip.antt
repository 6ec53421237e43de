-- Each way round: the word of an instruction whose fields are in range is read as that instruction, and what a listed word is read as is written as that word.
use Rattle.std.specs.Prelude.{Err, Ok, Result}
use mathlib.Core.Path.{◌≡◌, ◌∙◌, refl, sym}
use mathlib.Core.Bool.{true, false}
use Prim.Native.Nat.{ℕ, ◌+◌, ◌*◌, ◌/◌, ◌%◌, ◌<◌, ◌≤◌}
use native.Mathlib.Omega.{arith}
use borrow.Author.Tests.{lt-ltb, le-ltb, eq-eqb, ne_eqb, ltb-true}
use Rattle.lent.proofs.Laws.{by_lt, by_eq}
use Rattle.refusal.specs.declared.Refusal.{Refusal}
use Rattle.refusal.specs.declared.Refusal.TheVariants.{UnlistedWord}
use Rattle.refusal.specs.Told.{said, refused_told}
use Rattle.word.specs.declared.Instruction.{Instruction}
use Rattle.word.specs.declared.Instruction.TheVariants.{Accumulator, Memory, Lda, Sta, Immediate, Ldi, Branch, Call, Daa, Das, Rtnw, Rtni, Halt, Stop, Jmp, Shr, Tjmp, Nop}
use Rattle.word.specs.Codes.{operation_code, immediate_code, condition_code}
use Rattle.word.specs.Word.{decode_of, accumulator_of, transfer_of, control_of, encode_of, in_range, word_of, decoded_told, encoded_told}
use Rattle.word.proofs.Laws.{both_below, both_lt}
use Rattle.word.proofs.Codes.{operation_back, immediate_back, condition_back, operation_code_lem, immediate_code_lem, condition_code_lem}

-- the rows of the codes
accumulator_row : (w : ℕ) → w / 2048 < 7 → decode_of w ≡ accumulator_of w
unfolding decode_of
accumulator_row w h = rw (lt-ltb (w / 2048) 7 h)

transfer_row : (w : ℕ) → w / 2048 ≡ 7 → decode_of w ≡ transfer_of w
unfolding decode_of
transfer_row w h = rw (le-ltb (w / 2048) 7 (omega arith), eq-eqb (w / 2048) 7 h)

control_row : (w : ℕ) → 25 ≤ w / 2048 → (w / 4096 ≡ 14 → ⊥) → decode_of w ≡ control_of w
unfolding decode_of
control_row w h n =
    rw (
      le-ltb (w / 2048) 7 (omega arith),
      ne_eqb (w / 2048) 7 (omega arith),
      le-ltb (w / 2048) 15 (omega arith),
      ne_eqb (w / 2048) 15 (omega arith),
      le-ltb (w / 2048) 24 (omega arith),
      ne_eqb (w / 2048) 24 (omega arith),
      ne_eqb (w / 4096) 14 n,
    )

-- bit 10, and bits 10-7, of a word put together from its parts
bit_10 : (k m a w : ℕ) → m < 2 → a < 1024 → k * 2048 + m * 1024 + a ≡ w → w / 1024 % 2 ≡ m
bit_10 k m a w hm ha s =
    let f : w / 2048 ≡ k = omega arith in
    omega arith

bits_10_7 : (k i x w : ℕ) → i < 16 → x < 128 → k * 2048 + i * 128 + x ≡ w → w / 128 % 16 ≡ i
bits_10_7 k i x w hi hx s =
    let q : w / 128 ≡ k * 16 + i = omega arith in
    let r : w / 128 / 16 ≡ k = omega arith in
    omega arith

read_back : (i : Instruction) (w : ℕ) → in_range i ≡ true → word_of i ≡ w → decode_of w ≡ Ok i
unfolding decode_of accumulator_of transfer_of control_of
read_back (Accumulator o a) w e s =
    let h = ltb-true a 1024 e in
    let b = operation_back o in
    let f : w / 2048 ≡ operation_code o = omega arith in
    let g : w % 1024 ≡ a = omega arith in
    let m = bit_10 (operation_code o) 0 a w (omega arith) h (omega arith) in
    accumulator_row w (omega arith) ∙ rw (ne_eqb (w / 1024 % 2) 1 (omega arith), f, b.0, g)
read_back (Memory o a) w e s =
    let h = ltb-true a 1024 e in
    let b = operation_back o in
    let f : w / 2048 ≡ operation_code o = omega arith in
    let g : w % 1024 ≡ a = omega arith in
    let m = bit_10 (operation_code o) 1 a w (omega arith) h (omega arith) in
    accumulator_row w (omega arith) ∙ rw (eq-eqb (w / 1024 % 2) 1 (omega arith), f, b.0, g)
read_back (Lda a) w e s =
    let h = ltb-true a 1024 e in
    let g : w % 1024 ≡ a = omega arith in
    let m = bit_10 7 0 a w (omega arith) h (omega arith) in
    transfer_row w (omega arith) ∙ rw (ne_eqb (w / 1024 % 2) 1 (omega arith), g)
read_back (Sta a) w e s =
    let h = ltb-true a 1024 e in
    let g : w % 1024 ≡ a = omega arith in
    let m = bit_10 7 1 a w (omega arith) h (omega arith) in
    transfer_row w (omega arith) ∙ rw (eq-eqb (w / 1024 % 2) 1 (omega arith), g)
read_back (Immediate o x i) w e s =
    let h = both_below x 128 i 16 e in
    let b = immediate_back o in
    let f : w / 2048 ≡ immediate_code o = omega arith in
    let g : w % 128 ≡ x = omega arith in
    let k = bits_10_7 (immediate_code o) i x w h.1 h.0 (omega arith) in
    rw (le-ltb (w / 2048) 7 (omega arith), ne_eqb (w / 2048) 7 (omega arith), lt-ltb (w / 2048) 15 (omega arith), f, b.0, g, k)
read_back (Ldi x i) w e s =
    let h = both_below x 128 i 16 e in
    let g : w % 128 ≡ x = omega arith in
    let k = bits_10_7 15 i x w h.1 h.0 (omega arith) in
    rw (le-ltb (w / 2048) 7 (omega arith), ne_eqb (w / 2048) 7 (omega arith), le-ltb (w / 2048) 15 (omega arith), eq-eqb (w / 2048) 15 (omega arith), g, k)
read_back (Branch c t) w e s =
    let h = ltb-true t 2048 e in
    let b = condition_back c in
    let f : w / 2048 ≡ condition_code c = omega arith in
    let g : w % 2048 ≡ t = omega arith in
    rw (le-ltb (w / 2048) 7 (omega arith), ne_eqb (w / 2048) 7 (omega arith), le-ltb (w / 2048) 15 (omega arith), ne_eqb (w / 2048) 15 (omega arith), lt-ltb (w / 2048) 24 (omega arith), f, b.0, g)
read_back (Call t) w e s =
    let h = ltb-true t 2048 e in
    let g : w % 2048 ≡ t = omega arith in
    rw (le-ltb (w / 2048) 7 (omega arith), ne_eqb (w / 2048) 7 (omega arith), le-ltb (w / 2048) 15 (omega arith), ne_eqb (w / 2048) 15 (omega arith), le-ltb (w / 2048) 24 (omega arith), eq-eqb (w / 2048) 24 (omega arith), g)
read_back (Daa x) w e s =
    let h = ltb-true x 128 e in
    let g : w % 128 ≡ x = omega arith in
    control_row w (omega arith) (omega arith) ∙ rw (eq-eqb (w / 128) 0x196 (omega arith), g)
read_back (Das x) w e s =
    let h = ltb-true x 128 e in
    let g : w % 128 ≡ x = omega arith in
    control_row w (omega arith) (omega arith) ∙ rw (ne_eqb (w / 128) 0x196 (omega arith), eq-eqb (w / 128) 0x19A (omega arith), g)
read_back (Rtnw h l) w e s =
    let b = both_below h 16 l 16 e in
    let f : w / 16 % 16 ≡ h = omega arith in
    let g : w % 16 ≡ l = omega arith in
    control_row w (omega arith) (omega arith) ∙ rw (ne_eqb (w / 128) 0x196 (omega arith), ne_eqb (w / 128) 0x19A (omega arith), eq-eqb (w / 256) 0xD0 (omega arith), f, g)
read_back Rtni w e s = rw (← s)
read_back Halt w e s = rw (← s)
read_back Stop w e s = rw (← s)
read_back (Jmp t) w e s =
    let h = ltb-true t 4096 e in
    let g : w % 4096 ≡ t = omega arith in
    rw (
      le-ltb (w / 2048) 7 (omega arith),
      ne_eqb (w / 2048) 7 (omega arith),
      le-ltb (w / 2048) 15 (omega arith),
      ne_eqb (w / 2048) 15 (omega arith),
      le-ltb (w / 2048) 24 (omega arith),
      ne_eqb (w / 2048) 24 (omega arith),
      eq-eqb (w / 4096) 14 (omega arith),
      g,
    )
read_back Shr w e s = rw (← s)
read_back Tjmp w e s = rw (← s)
read_back Nop w e s = rw (← s)

pub decode_encode : (i : Instruction) → in_range i ≡ true → (encode_of i ≡ Ok (word_of i)) × (decode_of (word_of i) ≡ Ok i)
unfolding encode_of
decode_encode i e = (rw e, read_back i (word_of i) e refl)

-- 13
pub encode_refused : (i : Instruction) → in_range i ≡ false → encoded_told (encode_of i) ≡ said 13 0
unfolding encode_of encoded_told refused_told
encode_refused i e = rw e

-- what a word is read as has its fields in range and is written as that word; a refusal is of that word
abbrev Good : ℕ → Result Instruction Refusal → Type 0
Good w (Ok i) = (in_range i ≡ true) × (word_of i ≡ w)
Good w (Err why) = why ≡ UnlistedWord w

good_accumulator : (w : ℕ) → w / 2048 < 7 → Good w (accumulator_of w)
unfolding accumulator_of
good_accumulator w h =
    let k = operation_code_lem (w / 2048) h in
    by_eq (Good w) (w / 1024 % 2) 1 _ _ (λ t. (lt-ltb (w % 1024) 1024 (omega arith), rw k (omega arith)))
    (λ t. (lt-ltb (w % 1024) 1024 (omega arith), rw k (omega arith)))

good_transfer : (w : ℕ) → w / 2048 ≡ 7 → Good w (transfer_of w)
unfolding transfer_of
good_transfer w h =
    by_eq (Good w) (w / 1024 % 2) 1 _ _ (λ t. (lt-ltb (w % 1024) 1024 (omega arith), omega arith))
    (λ t. (lt-ltb (w % 1024) 1024 (omega arith), omega arith))

good_control : (w : ℕ) → Good w (control_of w)
unfolding control_of
good_control w =
    by_eq (Good w) (w / 128) 0x196 _ _ (λ t. (lt-ltb (w % 128) 128 (omega arith), omega arith))
    (λ t. by_eq (Good w) (w / 128) 0x19A _ _ (λ t. (lt-ltb (w % 128) 128 (omega arith), omega arith))
    (λ t. by_eq (Good w) (w / 256) 0xD0 _ _ (λ t. (both_lt (w / 16 % 16) 16 (w % 16) 16 (omega arith) (omega arith), omega arith))
    (λ t. by_eq (Good w) w 0xD400 _ _ (λ t. (refl, sym t))
    (λ t. by_eq (Good w) w 0xD800 _ _ (λ t. (refl, sym t))
    (λ t. by_eq (Good w) w 0xDC00 _ _ (λ t. (refl, sym t))
    (λ t. by_eq (Good w) w 0xF000 _ _ (λ t. (refl, sym t))
    (λ t. by_eq (Good w) w 0xF7FF _ _ (λ t. (refl, sym t))
    (λ t. by_eq (Good w) w 0xFFFF _ _ (λ t. (refl, sym t)) (λ t. refl)))))))))

good : (w : ℕ) → Good w (decode_of w)
unfolding decode_of
good w =
    by_lt (Good w) (w / 2048) 7 _ _ (λ t. good_accumulator w t)
    (λ t1. by_eq (Good w) (w / 2048) 7 _ _ (λ t. good_transfer w t)
    (λ t2. by_lt (Good w) (w / 2048) 15 _ _
    (λ t. let k = immediate_code_lem (w / 2048) (omega arith) t in (both_lt (w % 128) 128 (w / 128 % 16) 16 (omega arith) (omega arith), rw k (omega arith)))
    (λ t3. by_eq (Good w) (w / 2048) 15 _ _ (λ t. (both_lt (w % 128) 128 (w / 128 % 16) 16 (omega arith) (omega arith), omega arith))
    (λ t4. by_lt (Good w) (w / 2048) 24 _ _
    (λ t. let k = condition_code_lem (w / 2048) (omega arith) t in (lt-ltb (w % 2048) 2048 (omega arith), rw k (omega arith)))
    (λ t5. by_eq (Good w) (w / 2048) 24 _ _ (λ t. (lt-ltb (w % 2048) 2048 (omega arith), omega arith))
    (λ t6. by_eq (Good w) (w / 4096) 14 _ _ (λ t. (lt-ltb (w % 4096) 4096 (omega arith), omega arith))
    (λ t7. good_control w)))))))

pub encode_decode : (w : ℕ) (i : Instruction) → decode_of w ≡ Ok i → (in_range i ≡ true) × (encode_of i ≡ Ok w)
unfolding encode_of
encode_decode w i e =
    let g = rw e at (good w) in
    (g.0, rw (g.0, g.1))

-- 6, with the word
pub decode_refused : (w : ℕ) (why : Refusal) → decode_of w ≡ Err why → decoded_told (decode_of w) ≡ said 6 w
unfolding decoded_told refused_told
decode_refused w why e =
    let g : why ≡ UnlistedWord w = rw e at (good w) in
    rw (e, g)
