-- What the words of each arm of the dispatch are read as, and so what they do.
use Rattle.std.specs.Prelude.{Err, Ok, Result}
use mathlib.Core.Path.{◌≡◌, ◌∙◌, refl}
use mathlib.Core.Bool.{true, false}
use mathlib.Core.List.{List}
use Prim.Native.Nat.{ℕ, ◌/◌, ◌%◌, ◌<◌, ◌≤◌}
use native.Mathlib.Omega.{arith}
use lib.Dec.{ltb, eqb}
use borrow.Author.Tests.{le-ltb, eq-eqb, ne_eqb}
use Rattle.lent.specs.Lent.{pick}
use Rattle.lent.proofs.Laws.{by_choice, by_eq}
use Rattle.word.specs.declared.Instruction.TheVariants.{Accumulator, Memory, Jmp}
use Rattle.word.specs.Codes.{operation_of, immediate_of, condition_of}
use Rattle.word.specs.Word.{decode_of, accumulator_of, transfer_of, control_of}
use Rattle.alu.specs.Alu.{shifted_right_of}
use Rattle.sh_execute.specs.Execute.{next_of}
use Rattle.sh_core.specs.declared.Core.{Core}
use Rattle.sh_core.specs.Quick.{Quick, quickly, stays_of, got_of, gone_of, only_of, both_of, cell_of, stored_of, immediate_on_of, instruction_on_of, word_on_of, branched_of, instruction_of, other_word_of}
use Rattle.refusal.specs.declared.Refusal.{Refusal}
use Rattle.word.specs.declared.Instruction.{Instruction}

-- Words below $4000, by their first six bits.
module _ (w n : ℕ) (e : w / 1024 ≡ n) where
  pub accumulator_word : ltb (n / 2) 7 ≡ true → decode_of w ≡ pick (eqb (n % 2) 1) (Ok (Memory (operation_of (n / 2)) (w % 1024))) (Ok (Accumulator (operation_of (n / 2)) (w % 1024)))
  unfolding decode_of accumulator_of
  accumulator_word h = let k : w / 2048 ≡ n / 2 = omega arith in rw (k, h, e)

  module _ (c : Core) (l : List ℕ) (a : ℕ) where
    pub only_word : {r : Core} → ltb (n / 2) 7 ≡ true → eqb (n % 2) 1 ≡ false → r ≡ only_of c l a (operation_of (n / 2)) c.ac → quickly r l ≡ word_on_of c l a (decode_of w)
    unfolding word_on_of instruction_on_of
    only_word h k p = rw (accumulator_word h, k, p)

    pub both_word : {r : Quick} → ltb (n / 2) 7 ≡ true → eqb (n % 2) 1 ≡ true → r ≡ both_of c l a (operation_of (n / 2)) c.ac → r ≡ word_on_of c l a (decode_of w)
    unfolding word_on_of instruction_on_of
    both_word h k p = rw (accumulator_word h, k, p)

module _ (w : ℕ) (c : Core) (l : List ℕ) (a : ℕ) where
  pub lda_word : {r : Core} → w / 1024 ≡ 14 → r ≡ cell_of c l a → quickly r l ≡ word_on_of c l a (decode_of w)
  unfolding word_on_of instruction_on_of decode_of transfer_of
  lda_word e p = let k : w / 2048 ≡ 7 = omega arith in rw (k, e, p)

  pub sta_word : {r : Quick} → w / 1024 ≡ 15 → r ≡ stored_of c l a c.ac → r ≡ word_on_of c l a (decode_of w)
  unfolding word_on_of instruction_on_of decode_of transfer_of
  sta_word e p = let k : w / 2048 ≡ 7 = omega arith in rw (k, e, p)

  -- words from $4000 to $7FFF, by their code
  pub immediate_word : {r : Quick} (n : ℕ) → w / 2048 ≡ n → ltb n 7 ≡ false → eqb n 7 ≡ false → ltb n 15 ≡ true → r ≡ immediate_on_of c l a (immediate_of n) (w / 128 % 16) → r ≡ word_on_of c l a (decode_of w)
  unfolding word_on_of instruction_on_of decode_of
  immediate_word n e h j k p = rw (e, h, j, k, p)

  pub ldi_word : {r : Quick} → w / 2048 ≡ 15 → r ≡ stored_of c l a (w / 128 % 16) → r ≡ word_on_of c l a (decode_of w)
  unfolding word_on_of instruction_on_of decode_of
  ldi_word e p = rw (e, p)

-- Words from $8000 on, by their code.
module _ (c : Core) (w : ℕ) where
  pub branch_word : {r : Core} (n : ℕ) → w / 2048 ≡ n → ltb n 7 ≡ false → eqb n 7 ≡ false → ltb n 15 ≡ false → eqb n 15 ≡ false → ltb n 24 ≡ true → r ≡ branched_of c (condition_of n) (w % 2048) → r ≡ other_word_of c (decode_of w)
  unfolding other_word_of instruction_of decode_of
  branch_word n e a b d f g p = rw (e, a, b, d, f, g, p)

  pub jmp_word : {r : Core} (n : ℕ) → w / 2048 ≡ n → n / 2 ≡ 14 → r ≡ gone_of c (w % 4096) → r ≡ other_word_of c (decode_of w)
  unfolding other_word_of instruction_of decode_of
  jmp_word n e h p =
      let k : w / 4096 ≡ 14 = omega arith in
      rw (le-ltb (w / 2048) 7 (omega arith), ne_eqb (w / 2048) 7 (omega arith), le-ltb (w / 2048) 15 (omega arith), ne_eqb (w / 2048) 15 (omega arith), le-ltb (w / 2048) 24 (omega arith), ne_eqb (w / 2048) 24 (omega arith), k, p)

  -- past the branches: CALL, JMP, and what is listed of the rest
  pub past : 24 ≤ w / 2048 → decode_of w ≡ pick (eqb (w / 2048) 24) (Ok (Instruction.Call (w % 2048))) (pick (eqb (w / 4096) 14) (Ok (Jmp (w % 4096))) (control_of w))
  unfolding decode_of
  past h =
      rw (le-ltb (w / 2048) 7 (omega arith), ne_eqb (w / 2048) 7 (omega arith), le-ltb (w / 2048) 15 (omega arith), ne_eqb (w / 2048) 15 (omega arith), le-ltb (w / 2048) 24 h)

  high : 30 ≤ w / 2048 → decode_of w ≡ pick (eqb w 0xF000) (Ok Instruction.Shr) (pick (eqb w 0xF7FF) (Ok Instruction.Tjmp) (pick (eqb w 0xFFFF) (Ok Instruction.Nop) (Err (Refusal.UnlistedWord w))))
  unfolding control_of
  high h =
      rw (past (omega arith), ne_eqb (w / 2048) 24 (omega arith), ne_eqb (w / 4096) 14 (omega arith), ne_eqb (w / 128) 0x196 (omega arith), ne_eqb (w / 128) 0x19A (omega arith), ne_eqb (w / 256) 0xD0 (omega arith), ne_eqb w 0xD400 (omega arith), ne_eqb w 0xD800 (omega arith), ne_eqb w 0xDC00 (omega arith))

  pub shr_word : {r : Core} → w / 2048 ≡ 30 → r ≡ pick (eqb w 0xF000) (got_of c (shifted_right_of c.ac)) (stays_of c) → r ≡ other_word_of c (decode_of w)
  unfolding other_word_of instruction_of
  shr_word e p =
      p ∙ rw (high (omega arith), ne_eqb w 0xFFFF (omega arith))
      (by_eq (λ (b : Result Instruction Refusal). pick (eqb w 0xF000) (got_of c (shifted_right_of c.ac)) (stays_of c) ≡ other_word_of c b) w 0xF000 _ _ (λ f. rw (eq-eqb w 0xF000 f))
      (λ n. rw (ne_eqb w 0xF000 n) (by_choice (λ (b : Result Instruction Refusal). stays_of c ≡ other_word_of c b) (eqb w 0xF7FF) _ _ refl refl)))

  pub nop_word : {r : Core} → w / 2048 ≡ 31 → r ≡ pick (eqb w 0xFFFF) (gone_of c (next_of c.pc)) (stays_of c) → r ≡ other_word_of c (decode_of w)
  unfolding other_word_of instruction_of
  nop_word e p =
      p ∙ rw (high (omega arith), ne_eqb w 0xF000 (omega arith), ne_eqb w 0xF7FF (omega arith))
      (by_eq (λ (b : Result Instruction Refusal). pick (eqb w 0xFFFF) (gone_of c (next_of c.pc)) (stays_of c) ≡ other_word_of c b) w 0xFFFF _ _ (λ f. rw (eq-eqb w 0xFFFF f)) (λ n. rw (ne_eqb w 0xFFFF n)))

  pub stays_word : {r : Core} → 24 ≤ w / 2048 → w / 2048 < 28 → r ≡ stays_of c → r ≡ other_word_of c (decode_of w)
  unfolding other_word_of instruction_of control_of
  stays_word {r = r} h k p =
      p ∙ rw (past h, ne_eqb (w / 4096) 14 (omega arith), ne_eqb w 0xF000 (omega arith), ne_eqb w 0xFFFF (omega arith))
      (let Same : Result Instruction Refusal → Type 0 = λ b. stays_of c ≡ other_word_of c b in
      by_choice Same (eqb (w / 2048) 24) _ _ refl
      (by_choice Same (eqb (w / 128) 0x196) _ _ refl
      (by_choice Same (eqb (w / 128) 0x19A) _ _ refl
      (by_choice Same (eqb (w / 256) 0xD0) _ _ refl
      (by_choice Same (eqb w 0xD400) _ _ refl
      (by_choice Same (eqb w 0xD800) _ _ refl
      (by_choice Same (eqb w 0xDC00) _ _ refl
      (by_choice Same (eqb w 0xF7FF) _ _ refl refl))))))))
