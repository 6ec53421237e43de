-- Laws of the record written over 45 bytes, of words read from bytes, and of numbers written as bytes.
use Prim.Native.Nat.{ℕ, zero, suc, ◌+◌, ◌*◌, ◌/◌, ◌%◌, ◌<◌, ◌≤◌}
use mathlib.Core.Path.{◌≡◌, refl, sym, ap, ◌∙◌}
use mathlib.Core.List.{List, [], ◌∷◌, ◌++◌, append-nil}
use native.Mathlib.Omega.{arith}
use native.Mathlib.Nat.{zero-add}
use native.Mathlib.Numerals.{add-one}
use lib.Dec.{ltb, eqb}
use lib.ListN.{length, drop, set, replicate, drop_of_length-le, length-append, length-set, length-replicate, get_or-append}
use lib.Seq.{paste, paste-zero, paste-suc, set_out, get_or-set_same, get_or-set_other, get_or-append_seam}
use borrow.Author.Tests.{lt-ltb, ltb-true, ltb-false, eqb-true, eqb-false}
use Rattle.lent.specs.Lent.{at, pair_at_of, pair_set_of, pasted_of}
use Rattle.lent.proofs.Laws.{test, at_past, pasted_fits, pasted_front, pasted_on}
use Rattle.sh_state.specs.declared.machine.Machine.{Machine}
use Rattle.wire.specs.Record.{bytes_of}
use Rattle.wire.specs.Words.{words_of, words_at_of, two, pairs_of}

-- bytes pasted over as many are all that then stands there
pub pasted_whole : (d s : List ℕ) → length s ≡ length d → pasted_of d 0 s ≡ s
pasted_whole d s e =
    let none : drop (length s) d ≡ [] = drop_of_length-le d {i = length s} (omega arith) in
    pasted_front d s (omega arith) ∙ (ap (λ (r : List ℕ). s ++ r) none ∙ append-nil s)

length_bytes : (m : Machine) → length (bytes_of m) ≡ 45
unfolding bytes_of pairs_of
length_bytes m = refl

pub record_whole : (m : Machine) (s : List ℕ) → length s ≡ 45 → pasted_of s 0 (bytes_of m) ≡ bytes_of m
record_whole m s n = pasted_whole s (bytes_of m) (omega (arith, length_bytes m))

pub words_zero : (l : List ℕ) → words_of l 0 ≡ []
unfolding words_of
words_zero l = refl

pub words_more : (l : List ℕ) (n : ℕ) → words_of l (n + 1) ≡ words_of l n ++ pair_at_of l (n * 2) ∷ []
unfolding words_of
words_more l n = ap (words_of l) (add-one n)

pub length_words : (l : List ℕ) (n : ℕ) → length (words_of l n) ≡ n
unfolding words_of
length_words l zero = refl
length_words l (suc n) = omega (arith, length-append (words_of l n) (pair_at_of l (n * 2) ∷ []), length_words l n)

pub words_at : (l : List ℕ) (n i : ℕ) → i < n → at (words_of l n) i ≡ pair_at_of l (i * 2)
unfolding words_of
words_at l zero i h = absurd (omega arith)
words_at l (suc n) i h =
    test (eqb i n)
    (λ t.
    let e : i ≡ length (words_of l n) = omega (arith, eqb-true i n t, length_words l n) in
    ap (λ (k : ℕ). at (words_of l n ++ pair_at_of l (n * 2) ∷ []) k) e ∙ (get_or-append_seam (words_of l n) (pair_at_of l (n * 2)) [] 0 ∙ ap (λ (k : ℕ). pair_at_of l (k * 2)) (sym (eqb-true i n t))))
    (λ t. let e = eqb-false i n t in get_or-append (words_of l n) (pair_at_of l (n * 2) ∷ []) 0 i (omega (arith, length_words l n)) ∙ words_at l n i (omega arith))

-- a word stored where it stands in another program of the same length
module _ (w p : List ℕ) (e : length w ≡ length p) (a : ℕ) where
  pub put_here : at (set w a (at p a)) a ≡ at p a
  put_here =
      test (ltb a (length w)) (λ t. get_or-set_same w a (at p a) 0 (ltb-true a (length w) t))
      (λ t. let h = ltb-false a (length w) t in rw (set_out w a (at p a) h, ← at_past w a h, ← at_past p a (omega arith)))

  pub put_there : (i : ℕ) → at w i ≡ at p i → at (set w a (at p a)) i ≡ at p i
  put_there i h = test (eqb i a) (λ t. let q = eqb-true i a t in rw q put_here) (λ t. get_or-set_other w a i (at p a) 0 (eqb-false i a t) ∙ h)

-- a program with two words of another has them at their addresses
module _ (l : List ℕ) (a b : ℕ) where
  abbrev none : List ℕ
  none = replicate 4096 0

  abbrev one : List ℕ
  one = set none a (at (words_of l 4096) a)

  none_length : length none ≡ length (words_of l 4096)
  none_length = length-replicate {A = ℕ} 4096 0 ∙ sym (length_words l 4096)

  one_length : length one ≡ length (words_of l 4096)
  one_length = length-set none a (at (words_of l 4096) a) ∙ none_length

  pub words_at_length : length (words_at_of l a b) ≡ length (words_of l 4096)
  unfolding words_at_of
  words_at_length = length-set one b (at (words_of l 4096) b) ∙ one_length

  pub words_at_first : at (words_at_of l a b) a ≡ at (words_of l 4096) a
  unfolding words_at_of
  words_at_first = put_there one (words_of l 4096) one_length b a (put_here none (words_of l 4096) none_length a)

  pub words_at_second : at (words_at_of l a b) b ≡ at (words_of l 4096) b
  unfolding words_at_of
  words_at_second = put_here one (words_of l 4096) one_length b

pairs_zero : (w : List ℕ) → pairs_of w 0 ≡ []
unfolding pairs_of
pairs_zero w = refl

pairs_more : (w : List ℕ) (n : ℕ) → pairs_of w (n + 1) ≡ pairs_of w n ++ two (at w n) []
unfolding pairs_of
pairs_more w n = ap (pairs_of w) (add-one n)

pub length_pairs : (w : List ℕ) (n : ℕ) → length (pairs_of w n) ≡ n * 2
unfolding pairs_of
length_pairs w zero = refl
length_pairs w (suc n) = omega (arith, length-append (pairs_of w n) (two (at w n) []), length_pairs w n)

-- the first numbers of a list that goes on
pub pairs_front : (l r : List ℕ) (n : ℕ) → n ≤ length l → pairs_of (l ++ r) n ≡ pairs_of l n
unfolding pairs_of
pairs_front l r zero h = refl
pairs_front l r (suc n) h = rw (pairs_front l r n (omega arith), get_or-append l r 0 n (omega arith))

pub length_pair_set : (l : List ℕ) (i v : ℕ) → length (pair_set_of l i v) ≡ length l
unfolding pair_set_of
length_pair_set l i v = rw (length-set, length-set)

-- a number stored is its two bytes pasted
pair_pasted : (l : List ℕ) (i v : ℕ) → i + 2 ≤ length l → pair_set_of l i v ≡ pasted_of l i (two v [])
unfolding pair_set_of
pair_pasted l i v h =
    let s = two v [] in
    let z : i + 0 ≡ i = omega arith in
    let a : set l i (v / 256 % 256) ≡ paste l i s 1 =
    ap (λ (t : List ℕ). set t i (v / 256 % 256)) (paste-zero l i s)
    ∙ (ap (λ (k : ℕ). set (paste l i s 0) k (v / 256 % 256)) (sym z) ∙ paste-suc l i s 0 0 (omega arith) (omega arith)) in
    pasted_fits l i s _ 2 (ap (λ (t : List ℕ). set t (i + 1) (v % 256)) a ∙ paste-suc l i s 1 0 (omega arith) (omega arith)) refl h

-- The first i numbers pasted at the front of a part, as a loop does it.
module _ (w o : List ℕ) where
  pub pairs_start : o ≡ pasted_of o 0 (pairs_of w 0)
  pairs_start = sym (ap (pasted_of o 0) (pairs_zero w) ∙ pasted_front o [] (omega arith))

  pub pairs_on : (i v : ℕ) (t : List ℕ) → length t ≡ length o → t ≡ pasted_of o 0 (pairs_of w i) → v ≡ at w i → i * 2 + 2 ≤ length o → pair_set_of t (i * 2) v ≡ pasted_of o 0 (pairs_of w (i + 1))
  pairs_on i v t n e f h =
      pair_pasted t (i * 2) v (omega arith)
      ∙ (ap (λ (x : ℕ). pasted_of t (i * 2) (two x [])) f
      ∙ (ap (λ (l : List ℕ). pasted_of l (i * 2) (two (at w i) [])) e
      ∙ (pasted_on o (pairs_of w i) (two (at w i) []) (i * 2) (length_pairs w i) h ∙ sym (ap (pasted_of o 0) (pairs_more w i)))))

  pub pairs_past : (n : ℕ) → length o < n * 2 → o ≡ pasted_of o 0 (pairs_of w n)
  unfolding pasted_of
  pairs_past n h = rw (zero-add, length_pairs w n, lt-ltb (length o) (n * 2) h)
