-- A program's words when one of them is replaced.
use mathlib.Core.Path.{◌≡◌, ◌∙◌, sym, ap}
use mathlib.Core.List.{List}
use Prim.Native.Nat.{ℕ, ◌+◌, ◌*◌, ◌/◌, ◌%◌, ◌<◌}
use native.Mathlib.Omega.{arith}
use lib.Dec.{ltb}
use lib.ListN.{length, set, length-set}
use lib.Seq.{get_or-set_same, get_or-set_other, set-set, set_comm}
use borrow.Author.Tests.{ltb-true, ltb-false}
use Rattle.lent.specs.Lent.{at, pair_at_of, pair_set_of}
use Rattle.lent.proofs.Laws.{test, at_past}
use Rattle.wire.specs.Words.{words_of}
use Rattle.wire.proofs.Laws.{words_at, length_words}

-- two bytes stored are read back, others stay, and those that are stored there next take their place
module _ (l : List ℕ) (i w : ℕ) where
  pair_here : i + 1 < length l → w < 65536 → pair_at_of (pair_set_of l i w) i ≡ w
  unfolding pair_at_of pair_set_of
  pair_here h k =
      let u = w / 256 % 256 in
      let x : at (set (set l i u) (i + 1) (w % 256)) i ≡ u = get_or-set_other (set l i u) (i + 1) i (w % 256) 0 (λ e. omega arith) ∙ get_or-set_same l i u 0 (omega arith) in
      let y : at (set (set l i u) (i + 1) (w % 256)) (i + 1) ≡ w % 256 = get_or-set_same (set l i u) (i + 1) (w % 256) 0 (omega (arith, length-set l i u)) in
      rw (x, y) (omega arith)

  byte_there : (j : ℕ) → (j ≡ i → ⊥) → (j ≡ i + 1 → ⊥) → at (pair_set_of l i w) j ≡ at l j
  unfolding pair_set_of
  byte_there j e f = get_or-set_other (set l i (w / 256 % 256)) (i + 1) j (w % 256) 0 f ∙ get_or-set_other l i j (w / 256 % 256) 0 e

  pub pair_again : (v : ℕ) → pair_set_of (pair_set_of l i w) i v ≡ pair_set_of l i v
  unfolding pair_set_of
  pair_again v =
      let first : set (set (set l i (w / 256 % 256)) (i + 1) (w % 256)) i (v / 256 % 256) ≡ set (set l i (v / 256 % 256)) (i + 1) (w % 256) =
      set_comm (set l i (w / 256 % 256)) (i + 1) i (w % 256) (v / 256 % 256) (λ e. omega arith)
      ∙ ap (λ (x : List ℕ). set x (i + 1) (w % 256)) (set-set l i (w / 256 % 256) (v / 256 % 256)) in
      ap (λ (x : List ℕ). set x (i + 1) (v % 256)) first ∙ set-set (set l i (v / 256 % 256)) (i + 1) (w % 256) (v % 256)

-- a word stored in a program's bytes is the word at its address, and the words at other addresses stay
module _ (l : List ℕ) (a w : ℕ) where
  pub replaced_here : length l ≡ 8192 → a < 4096 → w < 65536 → at (words_of (pair_set_of l (a * 2) w) 4096) a ≡ w
  replaced_here n h k = words_at (pair_set_of l (a * 2) w) 4096 a h ∙ pair_here l (a * 2) w (omega arith) k

  pub replaced_there : (b : ℕ) → (b ≡ a → ⊥) → at (words_of (pair_set_of l (a * 2) w) 4096) b ≡ at (words_of l 4096) b
  unfolding pair_at_of
  replaced_there b e =
      test (ltb b 4096)
      (λ t.
      let h = ltb-true b 4096 t in
      let x = byte_there l (a * 2) w (b * 2) (λ q. e (omega arith)) (λ q. omega arith) in
      let y = byte_there l (a * 2) w (b * 2 + 1) (λ q. omega arith) (λ q. e (omega arith)) in
      words_at (pair_set_of l (a * 2) w) 4096 b h ∙ rw (x, y) (sym (words_at l 4096 b h)))
      (λ t.
      let h = ltb-false b 4096 t in
      sym (at_past (words_of (pair_set_of l (a * 2) w) 4096) b (omega (arith, length_words (pair_set_of l (a * 2) w) 4096)))
      ∙ at_past (words_of l 4096) b (omega (arith, length_words l 4096)))
