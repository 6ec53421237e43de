-- What text is laid as and begins with, piece by piece, and that digits say the number they were written for.
use Rattle.std.specs.Prelude.{None, Option, Some}
use mathlib.Core.Path.{◌≡◌, ◌∙◌, refl, sym, ap}
use mathlib.Core.Bool.{Bool, ◌&&◌, true, false}
use mathlib.Core.List.{List, [], ◌∷◌, ◌++◌}
use Prim.Native.Nat.{ℕ, zero, suc, ◌+◌, ◌-◌, ◌*◌, ◌/◌, ◌%◌, ◌^◌, ◌<◌, ◌≤◌}
use native.Mathlib.Omega.{arith}
use native.Mathlib.Nat.{zero-add}
use native.Mathlib.Numerals.{add-one}
use lib.Dec.{ltb, eqb}
use lib.ListN.{length, take, drop, drop_of_length-le, set, length-append, length-drop}
use lib.Seq.{take_all, sets-eq, length-sets, set_comm, get_or-drop}
use borrow.Author.Tests.{lt-ltb, le-ltb, eq-eqb, ne_eqb, ltb-true, ltb-false, eqb-true}
use Rattle.std.specs.List.{starts_with}
use Rattle.std.specs.Option.{option_eq}
use Rattle.std.specs.Prelude.{min}
use Rattle.lent.specs.Lent.{pick, both, at, over}
use Rattle.lent.proofs.Laws.{test, both_true, by_lt, drop_more, never}
use Rattle.text.specs.Text.{digit_of, value_of, hex_of, number_more, number_in, begins, laid_of}

-- two tests that follow from each other
pub same_test : (a b : Bool) → (a ≡ true → b ≡ true) → (b ≡ true → a ≡ true) → a ≡ b
same_test true true f g = refl
same_test true false f g = sym (f refl)
same_test false true f g = g refl
same_test false false f g = refl

pub both_of_lem : (a b : Bool) → a ≡ true → b ≡ true → both a b ≡ true
both_of_lem a b p q = rw (p, q)

pub both_none : (a b : Bool) → b ≡ false → both a b ≡ false
both_none true b e = e
both_none false b e = refl

pub both_some : (a b : Bool) → b ≡ true → both a b ≡ a
both_some true b e = e
both_some false b e = refl

pub both_both : (a b c : Bool) → both (both a b) c ≡ both a (both b c)
both_both true b c = refl
both_both false b c = refl

-- Text laid into a room.

pub laid_none : (l : List ℕ) (p : ℕ) → laid_of l p [] ≡ l
unfolding laid_of
laid_none l p = refl

-- one behind the other
pub laid_on : (l : List ℕ) (p : ℕ) (s r : List ℕ) → laid_of (laid_of l p s) (p + length s) r ≡ laid_of l p (s ++ r)
unfolding laid_of
laid_on l p [] r = let z : p + 0 ≡ p = omega arith in rw z
laid_on l p (x ∷ s) r =
    let z : p + suc (length s) ≡ suc p + length s = omega arith in
    rw z (laid_on (set l p x) (suc p) s r)

-- the last byte first
pub laid_last : (l : List ℕ) (p : ℕ) (s : List ℕ) (x : ℕ) → laid_of (set l (p + length s) x) p s ≡ laid_of l p (s ++ (x ∷ []))
unfolding laid_of
laid_last l p [] x = let z : p + 0 ≡ p = omega arith in rw z
laid_last l p (y ∷ s) x =
    let z : p + suc (length s) ≡ suc p + length s = omega arith in
    let n : suc p + length s ≡ p → ⊥ = λ e. omega arith in
    rw (z, set_comm l (suc p + length s) p x y n) (laid_last (set l p y) (suc p) s x)

-- at the front of a room that has room for it
pub laid_front : (l s : List ℕ) → length s ≤ length l → laid_of l 0 s ≡ over s l
unfolding laid_of over
laid_front l s h = rw zero-add at (sets-eq s l 0 (omega arith))

-- Lengths.

pub hex_length : (d v : ℕ) → length (hex_of d v) ≡ d
unfolding hex_of
hex_length zero v = refl
hex_length (suc d) v = omega (arith, length-append (hex_of d (v / 16)) (digit_of (v % 16) ∷ []), hex_length d (v / 16))

-- What a text begins with.

pub begins_none : (t : List ℕ) → begins [] t ≡ true
unfolding begins
begins_none t = refl

pub begins_append : (s r t : List ℕ) → begins (s ++ r) t ≡ both (begins s t) (begins r (drop (length s) t))
unfolding begins
begins_append [] r t = refl
begins_append (x ∷ s) r [] = refl
begins_append (x ∷ s) r (y ∷ t) = ap (both (eqb y x)) (begins_append s r t) ∙ sym (both_both (eqb y x) (begins s t) (begins r (drop (length s) t)))

-- a text begins with what it is made of
pub begins_own : (s r : List ℕ) → begins s (s ++ r) ≡ true
unfolding begins
begins_own [] r = refl
begins_own (x ∷ s) r = rw (eq-eqb x x refl) (begins_own s r)

-- and is made of what it begins with
pub begins_split : (s t : List ℕ) → begins s t ≡ true → t ≡ s ++ drop (length s) t
unfolding begins
begins_split [] t e = refl
begins_split (x ∷ s) [] e = never e
begins_split (x ∷ s) (y ∷ t) e =
    let b = both_true (eqb y x) (begins s t) e in
    ap (λ (z : ℕ). z ∷ t) (eqb-true y x b.0) ∙ ap (λ (l : List ℕ). x ∷ l) (begins_split s t b.1)

-- a byte other than 0
pub begins_byte : (x : ℕ) (t : List ℕ) → 0 < x → begins (x ∷ []) t ≡ eqb (at t 0) x
unfolding begins
begins_byte x [] h = sym (ne_eqb 0 x (λ e. omega arith))
begins_byte x (y ∷ t) h = both_some (eqb y x) true refl

-- Digits.

digits_back : (y : ℕ) → y < 16 → value_of (digit_of y) ≡ Some y
unfolding value_of digit_of
digits_back y h =
    by_lt (λ (c : ℕ). pick (ltb c 48) None (pick (ltb c 58) (Some (c - 48)) (pick (ltb c 65) None (pick (ltb c 71) (Some (c - 55)) None))) ≡ Some y) y 10 (48 + y) (55 + y)
    (λ k. rw (le-ltb (48 + y) 48 (omega arith), lt-ltb (48 + y) 58 (omega arith)) (ap Some (omega arith)))
    (λ k. rw (le-ltb (55 + y) 48 (omega arith), le-ltb (55 + y) 58 (omega arith), le-ltb (55 + y) 65 (omega arith), lt-ltb (55 + y) 71 (omega arith)) (ap Some (omega arith)))

-- nothing is not a number
pub no_number : {n : ℕ} {P : Type 0} → None ≡ Some n → P
no_number e = absurd (cc)

pub one_number : {m n : ℕ} → Some m ≡ Some n → m ≡ n
one_number e = cc

-- a byte that stands for a number is that number's digit, and the number is below 16
value_digit : (c y : ℕ) → value_of c ≡ Some y → (y < 16) × (c ≡ digit_of y)
unfolding value_of digit_of
value_digit c y =
    let P : Option ℕ → Type 0 = λ o. o ≡ Some y → (y < 16) × (c ≡ pick (ltb y 10) (48 + y) (55 + y)) in
    by_lt P c 48 None _ (λ k e. no_number e)
    (λ k. by_lt P c 58 (Some (c - 48)) _ (λ j e. let n = one_number e in (omega arith, rw (lt-ltb y 10 (omega arith)) (omega arith)))
    (λ j. by_lt P c 65 None _ (λ i e. no_number e)
    (λ i. by_lt P c 71 (Some (c - 55)) None (λ g e. let n = one_number e in (omega arith, rw (le-ltb y 10 (omega arith)) (omega arith))) (λ g e. no_number e))))

digit_some : (y : ℕ) → 0 < digit_of y
unfolding digit_of
digit_some y = by_lt (λ (n : ℕ). 0 < n) y 10 (48 + y) (55 + y) (λ k. omega arith) (λ k. omega arith)

-- what digits say is below the power of 16

more_below : (d : ℕ) (m v : Option ℕ) {n : ℕ} → ((k : ℕ) → m ≡ Some k → k < 16 ^ d) → ((k : ℕ) → v ≡ Some k → k < 16) → number_more m v ≡ Some n → n < 16 ^ suc d
more_below d None v f g e = no_number e
more_below d (Some m) None f g e = no_number e
more_below d (Some m) (Some v) f g e = let z = one_number e in let i = f m refl in let j = g v refl in omega arith

pub number_below : (d : ℕ) (t : List ℕ) (n : ℕ) → number_in d t ≡ Some n → n < 16 ^ d
unfolding number_in
number_below zero t n e = let z = one_number e in omega arith
number_below (suc d) t n e = more_below d (number_in d t) (value_of (at t d)) (number_below d t) (λ k f. (value_digit (at t d) k f).0) e

pub pow_small : (d : ℕ) → d < 4 → 16 ^ d ≤ 4096
pow_small zero h = omega arith
pow_small (suc zero) h = omega arith
pow_small (suc (suc zero)) h = omega arith
pow_small (suc (suc (suc zero))) h = omega arith
pow_small (suc (suc (suc (suc d)))) h = absurd (omega arith)

-- at most three digits, and one more
pub number_fits : (d : ℕ) (t : List ℕ) (n : ℕ) → d < 4 → number_in d t ≡ Some n → n < 4096
number_fits d t n h e = omega (arith, number_below d t n e, pow_small d h)

pub digit_fits : (c v : ℕ) → value_of c ≡ Some v → v < 16
digit_fits c v e = (value_digit c v e).0

-- whether it is this number
abbrev pub says : Option ℕ → ℕ → Bool
says o v = option_eq eqb o (Some v)

-- one digit more
digit_more : (n c v : ℕ) → both (eqb n (v / 16)) (eqb c (digit_of (v % 16))) ≡ says (number_more (Some n) (value_of c)) v
digit_more n c v = go (value_of c) refl
  where
    x : Bool
    x = eqb n (v / 16)

    y : Bool
    y = eqb c (digit_of (v % 16))

    back : both x y ≡ true → (n ≡ v / 16) × (value_of c ≡ Some (v % 16))
    back e = let b = both_true x y e in (eqb-true n (v / 16) b.0, ap value_of (eqb-true c (digit_of (v % 16)) b.1) ∙ digits_back (v % 16) (omega arith))

    go : (o : Option ℕ) → value_of c ≡ o → both x y ≡ says (number_more (Some n) o) v
    go None f = same_test (both x y) false (λ e. no_number (sym f ∙ (back e).1)) (λ e. never e)
    go (Some w) f =
        same_test (both x y) (eqb (n * 16 + w) v)
        (λ e. let b = back e in let z = one_number (sym f ∙ b.1) in eq-eqb (n * 16 + w) v (omega (arith, b.0)))
        (λ e.
        let d = value_digit c w f in
        let p = eqb-true (n * 16 + w) v e in
        let q : n ≡ v / 16 = omega (arith, d.0) in
        let r : w ≡ v % 16 = omega (arith, d.0) in
        both_of_lem x y (eq-eqb n (v / 16) q) (eq-eqb c (digit_of (v % 16)) (d.1 ∙ ap digit_of r)))

more_digit : (o : Option ℕ) (c v : ℕ) → both (says o (v / 16)) (eqb c (digit_of (v % 16))) ≡ says (number_more o (value_of c)) v
more_digit None c v = refl
more_digit (Some n) c v = digit_more n c v

-- THE DIGITS' LAW: a text begins with a number's digits exactly when its first bytes say the number
pub begins_hex : (d v : ℕ) (t : List ℕ) → v < 16 ^ d → begins (hex_of d v) t ≡ says (number_in d t) v
unfolding hex_of number_in
begins_hex zero v t k = let z : 0 ≡ v = omega arith in begins_none t ∙ sym (eq-eqb 0 v z)
begins_hex (suc d) v t k =
    let s = hex_of d (v / 16) in
    let x = digit_of (v % 16) in
    let j : at (drop (length s) t) 0 ≡ at t d =
    get_or-drop (length s) t 0 0 ∙ ap (at t) (let e = hex_length d (v / 16) in omega (arith, e)) in
    begins_append s (x ∷ []) t
    ∙ (ap (both (begins s t)) (begins_byte x (drop (length s) t) (digit_some (v % 16)) ∙ ap (λ (n : ℕ). eqb n x) j)
    ∙ (ap (λ (b : Bool). both b (eqb (at t d) x)) (begins_hex d (v / 16) t (omega arith)) ∙ more_digit (number_in d t) (at t d) v))

-- Loops over the digits and letters, the last one first.

module _ (l l' : List ℕ) (p k j x : ℕ) {y : ℕ} (e : k ≡ suc j) (f : l' ≡ set l (p + j) y) where
  pub put_digit : y ≡ digit_of (x % 16) → laid_of l' p (hex_of j (x / 16)) ≡ laid_of l p (hex_of k x)
  unfolding hex_of
  put_digit g =
      ap (λ (r : List ℕ). laid_of r p (hex_of j (x / 16))) f
      ∙ (ap (λ (n : ℕ). laid_of (set l (p + n) y) p (hex_of j (x / 16))) (sym (hex_length j (x / 16)))
      ∙ (laid_last l p (hex_of j (x / 16)) y ∙ rw (e, g)))

pub put_end : (l : List ℕ) (p v : ℕ) {k : ℕ} → k ≡ 0 → l ≡ laid_of l p (hex_of k v)
unfolding hex_of
put_end l p v e = sym (laid_none l p) ∙ rw e

-- a name's letters, one by one
pub letter_on : (l : List ℕ) {l' : List ℕ} (p k : ℕ) (s : List ℕ) → k < length s → l' ≡ set l (p + k) (at s k) → laid_of l' (p + (k + 1)) (drop (k + 1) s) ≡ laid_of l (p + k) (drop k s)
unfolding laid_of
letter_on l p k s h e = let z : p + (k + 1) ≡ suc (p + k) = omega arith in rw (e, z, drop_more s k h)

pub letters_end : (l : List ℕ) (q k : ℕ) (s : List ℕ) → length s ≤ k → l ≡ laid_of l q (drop k s)
letters_end l q k s h = rw (drop_of_length-le s h) (sym (laid_none l q))

-- whether a text starts with a name's letters
starts_one : (x y : ℕ) (r : Bool) → eqb x y && r ≡ both (eqb y x) r
starts_one x y r = test (eqb x y) (λ e. rw (e, eq-eqb y x (sym (eqb-true x y e)))) (λ e. rw (e, ne_eqb y x (λ q. never (sym e ∙ eq-eqb x y (sym q)))))

starts : (s t : List ℕ) → starts_with eqb t s ≡ begins s t
unfolding begins
starts [] t = refl
starts (x ∷ s) [] = refl
starts (x ∷ s) (y ∷ t) = starts_one x y _ ∙ ap (both (eqb y x)) (starts s t)

from_here : (t : List ℕ) (p : ℕ) → drop (min p (length t)) t ≡ drop p t
from_here t p =
    test (ltb p (length t))
    (λ e. ap (λ (n : ℕ). drop n t) (let h = ltb-true p (length t) e in omega arith))
    (λ e.
    let h : length t ≤ p = ltb-false p (length t) e in
    let k : length t ≤ min p (length t) = omega arith in
    drop_of_length-le t k ∙ sym (drop_of_length-le t h))

pub starts_at : (s t : List ℕ) (p : ℕ) {q : ℕ} {b : Bool} → q ≡ min p (length t) → b ≡ starts_with eqb (take (length t - q) (drop q t)) s → b ≡ begins s (drop p t)
starts_at s t p {q = q} e f =
    let h : length (drop q t) ≤ length t - q = omega (arith, length-drop q t) in
    f ∙ (ap (λ (r : List ℕ). starts_with eqb r s) (take_all (length t - q) (drop q t) h ∙ (ap (λ (n : ℕ). drop n t) e ∙ from_here t p)) ∙ starts s (drop p t))

-- Numbers as they are read.

pub number_on : (t : List ℕ) (p k : ℕ) {n v : ℕ} → number_in k (drop p t) ≡ Some n → value_of (at t (p + k)) ≡ Some v → number_in (k + 1) (drop p t) ≡ Some (n * 16 + v)
unfolding number_in
number_on t p k e f = rw (add-one k, get_or-drop p t k 0, e, f)

more_none : (o : Option ℕ) → number_more o None ≡ None
more_none None = refl
more_none (Some n) = refl

number_none : (d k : ℕ) (t : List ℕ) → k < d → value_of (at t k) ≡ None → number_in d t ≡ None
unfolding number_in
number_none zero k t h e = absurd (omega arith)
number_none (suc d) k t h e =
    test (ltb k d)
    (λ l. rw (number_none d k t (ltb-true k d l) e) refl)
    (λ l. let z : d ≡ k = omega (arith, ltb-false k d l) in rw (z, e) (more_none (number_in k t)))

pub number_off : (t : List ℕ) (p k d : ℕ) → k < d → value_of (at t (p + k)) ≡ None → None ≡ number_in d (drop p t)
number_off t p k d h e = sym (number_none d k (drop p t) h (rw (get_or-drop p t k 0) e))

pub number_end : (t : List ℕ) (d : ℕ) {k n : ℕ} → k ≡ d → number_in k t ≡ Some n → Some n ≡ number_in d t
number_end t d e f = rw (← e) (sym f)
