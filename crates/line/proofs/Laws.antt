-- How long the parts of a line are, how they are laid one behind the other, and when a text begins with them.
use Rattle.std.specs.Prelude.{None, Option, Some}
use Rattle.std.specs.Option.{IfSome}
use Rattle.std.specs.Bool.{then_some}
use mathlib.Core.Path.{◌≡◌, ◌∙◌, refl, sym, ap}
use mathlib.Core.Bool.{Bool, true, false, not}
use mathlib.Core.List.{List, [], ◌∷◌, ◌++◌}
use Prim.Native.Nat.{ℕ, ◌+◌, ◌^◌, ◌<◌, ◌≤◌}
use native.Mathlib.Omega.{arith}
use lib.Dec.{ltb, eqb}
use lib.ListN.{length, drop, set, length-append}
use lib.Seq.{drop-drop, get_or-drop}
use borrow.Author.Tests.{eq-eqb, ne_eqb, lt-ltb, le-ltb, ltb-true, ltb-false, eqb-true}
use Rattle.lent.specs.Lent.{pick, both, at}
use Rattle.lent.proofs.Laws.{test, never, both_true}
use Rattle.text.specs.Text.{hex_of, number_in, begins, laid_of}
use Rattle.text.proofs.Laws.{laid_none, laid_on, hex_length, says, begins_none, begins_append, begins_byte, begins_hex, both_both, both_none, both_some}
use Rattle.word.specs.Word.{decode_of}
use Rattle.word.proofs.Every.{every, every_at}
use Rattle.mnemonics.specs.declared.Kind.{Kind}
use Rattle.mnemonics.specs.declared.Shown.{Shown}
use Rattle.mnemonics.specs.Mnemonics.{bound, Fair, Fits, table, row_of, shown_of, name_of}
use Rattle.mnemonics.proofs.Laws.{word_fits}
use Rattle.mnemonics.proofs.Rows.{letters_few, kinds_fair}
use Rattle.line.specs.Line.{spaced_of, operand_of, below, operand_in, width_of, operands_of, line_of, word_in, good_of, line_in}

-- Lengths.

pub spaced_length : (d v : ℕ) → length (spaced_of d v) ≡ d + 1
unfolding spaced_of
spaced_length d v = omega (arith, length-append (hex_of d v) (32 ∷ []), hex_length d v)

pub operand_length : (k : Option Kind) (v : ℕ) → length (operand_of k v) ≡ width_of k
unfolding operand_of width_of
operand_length None v = refl
operand_length (Some k) v = omega (arith, hex_length k.digits v)

pub width_few : (k : Option Kind) → IfSome k Fair → width_of k < 5
unfolding width_of
width_few None f = omega arith
width_few (Some k) f = omega (arith, f.few)

pub operands_length : (s : Shown) → length (operands_of s) ≡ width_of (row_of s.row).first + width_of (row_of s.row).second + 1
unfolding operands_of
operands_length s =
    let x = operand_of (row_of s.row).first s.first in
    let y = operand_of (row_of s.row).second s.second in
    omega (arith, length-append x (y ++ (10 ∷ [])), length-append y (10 ∷ []), operand_length (row_of s.row).first s.first, operand_length (row_of s.row).second s.second)

pub line_length : (a w : ℕ) → length (line_of a w) ≡ 9 + length (row_of (shown_of (decode_of w)).row).name + length (operands_of (shown_of (decode_of w)))
unfolding line_of
line_length a w =
    let s = shown_of (decode_of w) in
    let n = (row_of s.row).name in
    omega (arith, length-append (spaced_of 3 a) (spaced_of 4 w ++ (n ++ operands_of s)), length-append (spaced_of 4 w) (n ++ operands_of s), length-append n (operands_of s), spaced_length 3 a, spaced_length 4 w)

-- Parts laid one behind the other.

pub laid_next : (l l' : List ℕ) {l'' : List ℕ} (p : ℕ) {q : ℕ} (s r : List ℕ) → q ≡ p + length s → l' ≡ laid_of l p s → l'' ≡ laid_of l' q r → l'' ≡ laid_of l p (s ++ r)
laid_next l l' p s r e f g = rw (g, f, e) (laid_on l p s r)

pub laid_byte : (l : List ℕ) {l' : List ℕ} (p x : ℕ) → l' ≡ set l p x → l' ≡ laid_of l p (x ∷ [])
unfolding laid_of
laid_byte l p x e = e

pub place_next : (p : ℕ) {q e : ℕ} (s r : List ℕ) → q ≡ p + length s → e ≡ q + length r → e ≡ p + length (s ++ r)
place_next p s r f g = omega (arith, length-append s r)

-- A number and a space.

pub begins_spaced : (d v : ℕ) (t : List ℕ) → v < 16 ^ d → begins (spaced_of d v) t ≡ both (says (number_in d t) v) (eqb (at t d) 32)
unfolding spaced_of
begins_spaced d v t k =
    let e : at (drop (length (hex_of d v)) t) 0 ≡ at t d = get_or-drop (length (hex_of d v)) t 0 0 ∙ ap (at t) (omega (arith, hex_length d v)) in
    begins_append (hex_of d v) (32 ∷ []) t
    ∙ (ap (λ (b : Bool). both b (begins (32 ∷ []) (drop (length (hex_of d v)) t))) (begins_hex d v t k)
    ∙ ap (both (says (number_in d t) v)) (begins_byte 32 (drop (length (hex_of d v)) t) (omega arith) ∙ ap (λ (n : ℕ). eqb n 32) e))

-- Operands, whatever their kind.

spaced_operand : (b : Bool) (n : Option ℕ) (v m : ℕ) → v < m → both b (says n v) ≡ says (pick b (below n m) None) v
spaced_operand false n v m h = refl
spaced_operand true None v m h = refl
spaced_operand true (Some n) v m h =
    test (ltb n m) (λ g. rw g refl) (λ g. let b = ltb-false n m g in rw g (ne_eqb n v (λ q. omega arith)))

-- THE OPERAND'S LAW: a text begins with an operand exactly when it is read there
pub begins_operand : (k : Option Kind) (v : ℕ) (t : List ℕ) → IfSome k Fair → v < bound k → begins (operand_of k v) t ≡ says (operand_in k t) v
unfolding operand_of operand_in
begins_operand None v t f h = begins_none t ∙ sym (eq-eqb 0 v (omega arith))
begins_operand (Some k) v t f h =
    begins_append (32 ∷ []) (hex_of k.digits v) t
    ∙ (ap (λ (b : Bool). both b (begins (hex_of k.digits v) (drop 1 t))) (begins_byte 32 t (omega arith))
    ∙ (ap (both (eqb (at t 0) 32)) (begins_hex k.digits v (drop 1 t) (omega (arith, f.fits))) ∙ spaced_operand (eqb (at t 0) 32) (number_in k.digits (drop 1 t)) v k.below h))

-- The operands and the line feed.
module _ (s : Shown) (t : List ℕ) (f : Fits s) where
  pub begins_operands :
      begins (operands_of s) t
      ≡ both (says (operand_in (row_of s.row).first t) s.first)
      (both (says (operand_in (row_of s.row).second (drop (width_of (row_of s.row).first) t)) s.second)
      (eqb (at t (width_of (row_of s.row).first + width_of (row_of s.row).second)) 10))
  unfolding operands_of
  begins_operands =
      let k = (row_of s.row).first in
      let l = (row_of s.row).second in
      let fair = kinds_fair s.row f.row in
      let x = operand_of k s.first in
      let y = operand_of l s.second in
      let t' = drop (width_of k) t in
      let e : at (drop (length y) t') 0 ≡ at t (width_of k + width_of l) =
      get_or-drop (length y) t' 0 0 ∙ (get_or-drop (width_of k) t (length y + 0) 0 ∙ ap (at t) (omega (arith, operand_length l s.second))) in
      begins_append x (y ++ (10 ∷ [])) t
      ∙ (ap (λ (b : Bool). both b (begins (y ++ (10 ∷ [])) (drop (length x) t))) (begins_operand k s.first t fair.0 f.first)
      ∙ ap (both (says (operand_in k t) s.first))
      (ap (λ (n : ℕ). begins (y ++ (10 ∷ [])) (drop n t)) (operand_length k s.first)
      ∙ (begins_append y (10 ∷ []) t'
      ∙ (ap (λ (b : Bool). both b (begins (10 ∷ []) (drop (length y) t'))) (begins_operand l s.second t' fair.1 f.second)
      ∙ ap (both (says (operand_in l t') s.second)) (begins_byte 10 (drop (length y) t') (omega arith) ∙ ap (λ (n : ℕ). eqb n 10) e)))))

-- THE LINE, part by part.
pub begins_line : (a w : ℕ) (t : List ℕ) →
    begins (line_of a w) t
    ≡ both (both (begins (spaced_of 3 a) t) (begins (spaced_of 4 w) (drop 4 t))) (begins ((row_of (shown_of (decode_of w)).row).name ++ operands_of (shown_of (decode_of w))) (drop 9 t))
unfolding line_of
begins_line a w t =
    let s = shown_of (decode_of w) in
    let r = (row_of s.row).name ++ operands_of s in
    let x = begins (spaced_of 3 a) t in
    let y = begins (spaced_of 4 w) (drop 4 t) in
    begins_append (spaced_of 3 a) (spaced_of 4 w ++ r) t
    ∙ (ap (both x)
    (ap (λ (n : ℕ). begins (spaced_of 4 w ++ r) (drop n t)) (spaced_length 3 a)
    ∙ (begins_append (spaced_of 4 w) r (drop 4 t)
    ∙ ap (both y) (ap (λ (n : ℕ). begins r (drop n (drop 4 t))) (spaced_length 4 w) ∙ ap (begins r) (drop-drop 5 4 t))))
    ∙ sym (both_both x y (begins r (drop 9 t))))

-- What each function that writes leaves.

pub spaced_laid : (l l' : List ℕ) {l'' : List ℕ} (p d v : ℕ) → l' ≡ laid_of l p (hex_of d v) → l'' ≡ set l' (p + d) 32 → l'' ≡ laid_of l p (spaced_of d v)
unfolding spaced_of
spaced_laid l l' p d v e f = laid_next l l' p (hex_of d v) (32 ∷ []) (omega (arith, hex_length d v)) e (laid_byte l' (p + d) 32 f)

-- the place behind a text, and the room with it
abbrev Laid : List ℕ → ℕ → List ℕ → ℕ → List ℕ → Type 0
Laid l p s e l' = (e ≡ p + length s) × (l' ≡ laid_of l p s)

laid_both : (l l' : List ℕ) {l'' : List ℕ} (p q : ℕ) {e : ℕ} (s r : List ℕ) → Laid l p s q l' → Laid l' q r e l'' → Laid l p (s ++ r) e l''
laid_both l l' p q s r x y = (place_next p s r x.0 y.0, laid_next l l' p s r x.0 x.1 y.1)

module _ (v p : ℕ) (l : List ℕ) {kind : Option Kind} where
  pub operand_none : kind ≡ None → Laid l p (operand_of kind v) p l
  unfolding operand_of
  operand_none g = rw g (omega arith, sym (laid_none l p))

  pub operand_laid : (k : Kind) (l' : List ℕ) {l'' : List ℕ} → kind ≡ Some k → l' ≡ set l p 32 → l'' ≡ laid_of l' (p + 1) (hex_of k.digits v) → Laid l p (operand_of kind v) (p + 1 + k.digits) l''
  unfolding operand_of
  operand_laid k l' g e f =
      rw g (laid_both l l' p (p + 1) (32 ∷ []) (hex_of k.digits v) (omega arith, laid_byte l p 32 e) (omega (arith, hex_length k.digits v), f))

pub operands_laid : (s : Shown) (p : ℕ) (l l₁ l₂ : List ℕ) {l₃ : List ℕ} {k k' : Option Kind} {q e : ℕ} →
    k ≡ (row_of s.row).first → Laid l p (operand_of k s.first) q l₁ → k' ≡ (row_of s.row).second → Laid l₁ q (operand_of k' s.second) e l₂ → l₃ ≡ set l₂ e 10 →
    Laid l p (operands_of s) (e + 1) l₃
unfolding operands_of
operands_laid s p l l₁ l₂ {q = q} {e = e} f x g y h =
    let v = operand_of (row_of s.row).first s.first in
    let w = operand_of (row_of s.row).second s.second in
    laid_both l l₁ p q v (w ++ (10 ∷ [])) (rw (← f) x) (laid_both l₁ l₂ q e w (10 ∷ []) (rw (← g) y) (omega arith, laid_byte l₂ e 10 h))

pub items_laid : (s : Shown) (p : ℕ) (l l₁ : List ℕ) {l₂ n : List ℕ} {e : ℕ} →
    n ≡ (row_of s.row).name → l₁ ≡ laid_of l p n → Laid l₁ (p + length n) (operands_of s) e l₂ →
    Laid l p ((row_of s.row).name ++ operands_of s) e l₂
items_laid s p l l₁ {n = n} {e = e} g x y = rw (← g) (laid_both l l₁ p (p + length n) n (operands_of s) (refl, x) y)

pub line_laid : (a w p : ℕ) (l l₁ l₂ : List ℕ) {l₃ : List ℕ} {s : Shown} {e : ℕ} →
    s ≡ shown_of (decode_of w) → l₁ ≡ laid_of l p (spaced_of 3 a) → l₂ ≡ laid_of l₁ (p + 4) (spaced_of 4 w) → Laid l₂ (p + 9) ((row_of s.row).name ++ operands_of s) e l₃ →
    Laid l p (line_of a w) e l₃
unfolding line_of
line_laid a w p l l₁ l₂ f x y z =
    laid_both l l₁ p (p + 4) (spaced_of 3 a) _ (omega (arith, spaced_length 3 a), x)
    (laid_both l₁ l₂ (p + 4) (p + 9) (spaced_of 4 w) _ (omega (arith, spaced_length 4 w), y) (rw (← f) z))

-- What each of them asks.

pub fair_first : (s : Shown) {k : Option Kind} → Fits s → k ≡ (row_of s.row).first → IfSome k Fair
fair_first s f e = rw e (kinds_fair s.row f.row).0

pub fair_second : (s : Shown) {k : Option Kind} → Fits s → k ≡ (row_of s.row).second → IfSome k Fair
fair_second s f e = rw e (kinds_fair s.row f.row).1

pub named : (s : Shown) {n : List ℕ} → Fits s → n ≡ name_of s.row → n ≡ (row_of s.row).name
unfolding name_of
named s f e = rw (lt-ltb s.row 44 f.row) at e

pub name_few : (s : Shown) {n : List ℕ} → Fits s → n ≡ (row_of s.row).name → length n < 6
name_few s f e = rw e (letters_few s.row f.row)

pub shown_fits : (w : ℕ) {s : Shown} → w < 65536 → s ≡ shown_of (decode_of w) → Fits s
shown_fits w h e = rw e (word_fits w h)

pub operand_near : (k : Option Kind) (v : ℕ) → IfSome k Fair → length (operand_of k v) < 5
operand_near k v f = omega (arith, operand_length k v, width_few k f)

-- What each function that reads answers.

-- a test behind a test

pub and_then : (a b : Bool) {r : Bool} → both a b ≡ r → a ≡ true → b ≡ r
and_then true b e f = e
and_then false b e f = never f

pub and_else : (a b : Bool) {r : Bool} → both a b ≡ r → a ≡ false → a ≡ r
and_else true b e f = never (sym f)
and_else false b e f = e

not_true : (x : Bool) {b : Bool} → b ≡ not x → b ≡ true → x ≡ false
not_true true e f = never (sym e ∙ f)
not_true false e f = refl

not_false : (x : Bool) {b : Bool} → b ≡ not x → b ≡ false → x ≡ true
not_false true e f = refl
not_false false e f = never (sym f ∙ e)

pub spaced_read : (t : List ℕ) (p d v : ℕ) {n : Option ℕ} {x : Bool} {c : ℕ} → v < 16 ^ d → n ≡ number_in d (drop p t) → x ≡ says n v → c ≡ at t (p + d) → both x (eqb c 32) ≡ begins (spaced_of d v) (drop p t)
spaced_read t p d v k e x f = rw (x, e, f) (sym (begins_spaced d v (drop p t) k ∙ rw (get_or-drop p t d 0)))

module _ (t : List ℕ) (p : ℕ) {kind : Option Kind} where
  pub read_none : kind ≡ None → Some 0 ≡ operand_in kind (drop p t)
  unfolding operand_in
  read_none e = rw e

  module _ (k : Kind) (g : kind ≡ Some k) {c : ℕ} (e : c ≡ at t p) where
    here : at (drop p t) 0 ≡ c
    here = get_or-drop p t 0 0 ∙ (ap (at t) (omega arith) ∙ sym e)

    pub read_unspaced : (c ≡ 32 → ⊥) → None ≡ operand_in kind (drop p t)
    unfolding operand_in
    read_unspaced o = rw (g, here, ne_eqb c 32 o)

    module _ (o : c ≡ 32) {m : Option ℕ} (f : m ≡ number_in k.digits (drop (p + 1) t)) where
      read_spaced : below m k.below ≡ operand_in kind (drop p t)
      unfolding operand_in
      read_spaced =
          let there : number_in k.digits (drop 1 (drop p t)) ≡ m = ap (number_in k.digits) (drop-drop 1 p t) ∙ sym f in
          rw (g, here, eq-eqb c 32 o, there)

      pub read_missing : m ≡ None → None ≡ operand_in kind (drop p t)
      read_missing h = sym (ap (λ (n : Option ℕ). below n k.below) h) ∙ read_spaced

      pub read_number : (n : ℕ) → m ≡ Some n → n < k.below → Some n ≡ operand_in kind (drop p t)
      read_number n h i = sym (ap (λ (n : Option ℕ). below n k.below) h ∙ rw (lt-ltb n k.below i)) ∙ read_spaced

      pub read_over : (n : ℕ) → m ≡ Some n → k.below ≤ n → None ≡ operand_in kind (drop p t)
      read_over n h i = sym (ap (λ (n : Option ℕ). below n k.below) h ∙ rw (le-ltb n k.below i)) ∙ read_spaced

module _ (s : Shown) (t : List ℕ) (p : ℕ) {k l : Option Kind} {u v c : ℕ}
    (f : Fits s) (e : k ≡ (row_of s.row).first) (g : l ≡ (row_of s.row).second) (i : u ≡ width_of k) (j : v ≡ width_of l) (q : c ≡ at t (p + u + v)) where
  operands_parts : both (says (operand_in k (drop p t)) s.first) (both (says (operand_in l (drop (p + u) t)) s.second) (eqb c 10)) ≡ begins (operands_of s) (drop p t)
  operands_parts =
      let w : at t (p + u + v) ≡ at (drop p t) (u + v) = ap (at t) (omega arith) ∙ sym (get_or-drop p t (u + v) 0) in
      rw (q, w, ← (drop-drop u p t), i, j, e, g) (sym (begins_operands s (drop p t) f))

  pub operands_off : {m : Option ℕ} {b : Bool} → m ≡ operand_in k (drop p t) → b ≡ not (says m s.first) → b ≡ true → false ≡ begins (operands_of s) (drop p t)
  operands_off a e h =
      let x = not_true (says (operand_in k (drop p t)) s.first) (e ∙ ap (λ (o : Option ℕ). not (says o s.first)) a) h in
      sym x ∙ and_else _ _ operands_parts x

  pub operands_on : {m n : Option ℕ} {b y : Bool} → m ≡ operand_in k (drop p t) → b ≡ not (says m s.first) → b ≡ false → n ≡ operand_in l (drop (p + u) t) → y ≡ says n s.second → both y (eqb c 10) ≡ begins (operands_of s) (drop p t)
  operands_on a e h d y =
      let x = not_false (says (operand_in k (drop p t)) s.first) (e ∙ ap (λ (o : Option ℕ). not (says o s.first)) a) h in
      rw (y, d) (and_then _ _ operands_parts x)

pub items_parts : (s : Shown) (t : List ℕ) (p : ℕ) {n : List ℕ} {b : Bool} →
    n ≡ (row_of s.row).name → b ≡ begins n (drop p t) → both b (begins (operands_of s) (drop (p + length n) t)) ≡ begins ((row_of s.row).name ++ operands_of s) (drop p t)
items_parts s t p {n} g e = rw (← g, e) (sym (begins_append n (operands_of s) (drop p t) ∙ rw (drop-drop (length n) p t)))

module _ (a w : ℕ) (t : List ℕ) (p : ℕ) (h : w < 65536) (o : Some w ≡ word_in (drop p t)) {c : ℕ} (d : c ≡ at t (p + 8)) where
  -- the word stands there; what is left to be looked at is the space behind it
  spaced_word : begins (spaced_of 4 w) (drop 4 (drop p t)) ≡ eqb c 32
  unfolding word_in
  spaced_word =
      let n : says (number_in 4 (drop 4 (drop p t))) w ≡ true = rw (← o) (eq-eqb w w refl) in
      let s : at (drop 4 (drop p t)) 4 ≡ c = get_or-drop 4 (drop p t) 4 0 ∙ (get_or-drop p t 8 0 ∙ sym d) in
      begins_spaced 4 w (drop 4 (drop p t)) h ∙ rw (n, s)

  line_parts : both (both (begins (spaced_of 3 a) (drop p t)) (eqb c 32)) (begins ((row_of (shown_of (decode_of w)).row).name ++ operands_of (shown_of (decode_of w))) (drop (p + 9) t)) ≡ begins (line_of a w) (drop p t)
  line_parts = sym (begins_line a w (drop p t) ∙ rw (spaced_word, drop-drop 9 p t))

  pub line_off : (c ≡ 32 → ⊥) → false ≡ begins (line_of a w) (drop p t)
  line_off n = sym (sym line_parts ∙ rw (ne_eqb c 32 n, both_none (begins (spaced_of 3 a) (drop p t)) false refl))

  pub line_on : (s : Shown) {x : Bool} → c ≡ 32 → s ≡ shown_of (decode_of w) → x ≡ begins (spaced_of 3 a) (drop p t) → both x (begins ((row_of s.row).name ++ operands_of s) (drop (p + 9) t)) ≡ begins (line_of a w) (drop p t)
  line_on s n i e = rw (e, i) (sym (sym line_parts ∙ rw (both_some (begins (spaced_of 3 a) (drop p t)) (eqb c 32) (eq-eqb c 32 n))))

pub word_read : (t : List ℕ) (p : ℕ) {w : Option ℕ} → w ≡ number_in 4 (drop (p + 4) t) → w ≡ word_in (drop p t)
unfolding word_in
word_read t p e = e ∙ sym (ap (number_in 4) (drop-drop 4 p t))

pub no_word : (a : ℕ) (t : List ℕ) → None ≡ word_in t → None ≡ line_in a t
unfolding line_in good_of
no_word a t e = rw (← e)

pub good_word : (a : ℕ) (t : List ℕ) {w : ℕ} {b : Bool} → Some w ≡ word_in t → b ≡ begins (line_of a w) t → then_some b w ≡ line_in a t
unfolding line_in good_of
good_word a t {w} {b} e f = rw (← e, ← f) (go b)
  where
    go : (b : Bool) → then_some b w ≡ pick b (Some w) None
    go true = refl
    go false = refl

-- HOW LONG lines are, by their rows: computed over all rows. The longest line has 21 bytes.
abbrev size : ℕ → ℕ
size n = 10 + length (row_of n).name + width_of (row_of n).first + width_of (row_of n).second

unfoldable pub lengths : List ℕ
lengths =
    17 ∷ 18 ∷ 17 ∷ 18 ∷ 17 ∷ 18 ∷ 17 ∷ 18 ∷ 17 ∷ 18 ∷ 16 ∷ 17 ∷ 17 ∷ 18 ∷ 17 ∷ 17 ∷ 19 ∷ 20 ∷ 19 ∷ 20 ∷ 21 ∷ 20 ∷ 21 ∷ 19 ∷ 17 ∷ 17 ∷ 17 ∷ 16 ∷ 17 ∷ 17 ∷ 17 ∷ 17 ∷ 18 ∷ 17 ∷ 17 ∷ 18 ∷ 14 ∷ 14 ∷ 14 ∷ 17 ∷ 13 ∷ 14 ∷ 13 ∷ 14 ∷ []

unfoldable sized : ℕ → Bool
sized n = pick (ltb n 44) (both (eqb (at lengths n) (size n)) (ltb (at lengths n) 22)) true

all_sized : every sized 6 0 ≡ true
unfolding every sized lengths width_of row_of table
all_sized = refl

pub line_size : (a w : ℕ) → size (shown_of (decode_of w)).row ≡ length (line_of a w)
line_size a w = omega (arith, line_length a w, operands_length (shown_of (decode_of w)))

pub length_by_lem : (a w : ℕ) {n : ℕ} → w < 65536 → n ≡ (shown_of (decode_of w)).row → (at lengths n ≡ length (line_of a w)) × (at lengths n < 22)
unfolding sized
length_by_lem a w h e =
    let m = (shown_of (decode_of w)).row in
    let f = (word_fits w h).row in
    let z : 0 + m ≡ m = omega arith in
    let u : sized m ≡ true = rw z at (every_at sized 6 0 m all_sized (omega (arith, f))) in
    let v = both_true (eqb (at lengths m) (size m)) (ltb (at lengths m) 22) (rw (lt-ltb m 44 f) at u) in
    rw e (eqb-true (at lengths m) (size m) v.0 ∙ line_size a w, ltb-true (at lengths m) 22 v.1)

pub line_few : (a w : ℕ) → w < 65536 → length (line_of a w) < 22
line_few a w h = let l = length_by_lem a w h refl in omega (arith, l.0, l.1)

-- a line is as long at any address
pub line_same : (a w : ℕ) → length (line_of a w) ≡ length (line_of 0 w)
line_same a w = omega (arith, line_length a w, line_length 0 w)
