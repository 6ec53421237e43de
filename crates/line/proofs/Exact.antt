-- A line is good for an address exactly when it is what is written there for some word, and that word is the one it says.
use Rattle.std.specs.Prelude.{None, Option, Some}
use mathlib.Core.Path.{◌≡◌, ◌∙◌, ap, refl, sym}
use mathlib.Core.Bool.{true, false}
use mathlib.Core.List.{List, ◌++◌}
use Prim.Native.Nat.{ℕ, ◌<◌}
use lib.Dec.{eqb}
use lib.ListN.{drop}
use native.Mathlib.Omega.{arith}
use borrow.Author.Tests.{eqb-true}
use Rattle.lent.specs.Lent.{pick, both, at}
use Rattle.lent.proofs.Laws.{both_true, by_test, never}
use Rattle.text.specs.Text.{number_in, begins}
use Rattle.text.proofs.Laws.{no_number, number_below, one_number, says}
use Rattle.word.specs.Word.{decode_of}
use Rattle.mnemonics.specs.Mnemonics.{row_of, shown_of}
use Rattle.line.specs.Line.{spaced_of, operands_of, line_of, word_in, written_for, good_of, line_in}
use Rattle.line.proofs.Laws.{begins_spaced, begins_line}

said : (o : Option ℕ) (v : ℕ) → says o v ≡ true → o ≡ Some v
said None v e = never e
said (Some n) v e = ap Some (eqb-true n v e)

module _ (a w : ℕ) (t : List ℕ) (h : w < 65536) (e : begins (line_of a w) t ≡ true) where
  pub line_word : word_in t ≡ Some w
  unfolding word_in
  line_word =
      let s = shown_of (decode_of w) in
      let x = begins (spaced_of 3 a) t in
      let y = begins (spaced_of 4 w) (drop 4 t) in
      let b = both_true (both x y) (begins ((row_of s.row).name ++ operands_of s) (drop 9 t)) (sym (begins_line a w t) ∙ e) in
      let d = both_true x y b.0 in
      let n = both_true (says (number_in 4 (drop 4 t)) w) (eqb (at (drop 4 t) 4) 32) (sym (begins_spaced 4 w (drop 4 t) h) ∙ d.1) in
      said (number_in 4 (drop 4 t)) w n.0

  pub line_good : good_of a t ≡ true
  unfolding good_of
  line_good = rw line_word e

-- four digits say a word
word_small : (t : List ℕ) (w : ℕ) → word_in t ≡ Some w → w < 65536
unfolding word_in
word_small t w e = let h = number_below 4 (drop 4 t) w e in omega arith

-- what stands in a good line: a word, and what is written for it
pub record Good (a w : ℕ) (t : List ℕ) : Type 0 where
  pub said : word_in t ≡ Some w
  pub fits : w < 65536
  pub there : begins (line_of a w) t ≡ true

pub good_line : (a : ℕ) (t : List ℕ) → good_of a t ≡ true → (w : ℕ) × Good a w t
unfolding good_of
good_line a t = go (word_in t) refl
  where
    go : (o : Option ℕ) → word_in t ≡ o → written_for a o t ≡ true → (w : ℕ) × Good a w t
    go None f = λ e. never e
    go (Some w) f = λ e. (w, record { said = f; fits = word_small t w f; there = e })

-- what the reader of a line answers

pub read_good : (a : ℕ) (t : List ℕ) {w : ℕ} → line_in a t ≡ Some w → Good a w t
unfolding line_in good_of
read_good a t {w} = go (word_in t) refl
  where
    go : (o : Option ℕ) → word_in t ≡ o → pick (written_for a o t) o None ≡ Some w → Good a w t
    go None f = λ e. no_number e
    go (Some v) f =
        by_test (λ (o : Option ℕ). o ≡ Some w → Good a w t) (begins (line_of a v) t) (Some v) None
        (λ b e. let z = one_number e in let g : word_in t ≡ Some w = f ∙ ap Some z in record { said = g; fits = word_small t w g; there = rw (← z) b })
        (λ b e. no_number e)

pub read_bad : (a : ℕ) (t : List ℕ) → line_in a t ≡ None → good_of a t ≡ false
unfolding line_in good_of
read_bad a t = go (word_in t)
  where
    go : (o : Option ℕ) → pick (written_for a o t) o None ≡ None → written_for a o t ≡ false
    go None = λ e. refl
    go (Some v) =
        by_test (λ (o : Option ℕ). o ≡ None → begins (line_of a v) t ≡ false) (begins (line_of a v) t) (Some v) None (λ b e. no_number (sym e)) (λ b e. b)

pub good_read : (a w : ℕ) (t : List ℕ) → w < 65536 → begins (line_of a w) t ≡ true → line_in a t ≡ Some w
unfolding line_in
good_read a w t h e = rw (line_good a w t h e) (line_word a w t h e)
