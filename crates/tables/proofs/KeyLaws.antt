-- The cell that a word is kept under, and the list's test: what each says of the other.
use mathlib.Core.Path.{◌≡◌, ◌∙◌, refl, sym, ap}
use mathlib.Core.Bool.{Bool, true, false}
use Prim.Native.Nat.{ℕ, ◌<◌}
use native.Mathlib.Omega.{arith}
use lib.Dec.{eqb}
use borrow.Author.Tests.{eq-eqb, eqb-true, eqb-false}
use Rattle.lent.specs.Lent.{pick, both}
use Rattle.lent.proofs.Laws.{test, never, both_true, by_test, by_lt}
use Rattle.sh_map.specs.Map.{kind_of, askable_in, askable_of}
use Rattle.writers.specs.Test.{names, writes_of}
use Rattle.writers.specs.Bits.{named_of, may_of}
use Rattle.writers.proofs.Bits.{by_bits}
use Rattle.tables.specs.Key.{none, keeps_of, kept_of, key_of, under}

pub named_small : (w : ℕ) → named_of w < 1024
unfolding named_of
named_small w = by_lt (λ (x : ℕ). x < 1024) w 0x4000 _ _ (λ h. omega arith) (λ h. omega arith)

pub none_keeps : keeps_of none ≡ false
unfolding keeps_of askable_of askable_in kind_of
none_keeps = refl

pub under_other : (w c : ℕ) → keeps_of c ≡ false → under w c ≡ false
unfolding under
under_other w c e = rw e

pub under_none : (w : ℕ) → under w none ≡ false
under_none w = under_other w none none_keeps

pub under_keeps : (w c : ℕ) → under w c ≡ true → keeps_of c ≡ true
unfolding under
under_keeps w c e = (both_true (keeps_of c) (eqb (key_of w) c) e).0

pub under_key : (w c : ℕ) → under w c ≡ true → key_of w ≡ c
unfolding under
under_key w c e = eqb-true (key_of w) c (both_true (keeps_of c) (eqb (key_of w) c) e).1

pub key_under : (w c : ℕ) → keeps_of c ≡ true → key_of w ≡ c → under w c ≡ true
unfolding under
key_under w c k e = rw (k, eq-eqb (key_of w) c e)

-- What a word's key says, by the two parts of the test.
module _ (w : ℕ) where
  pub key_kept : may_of w ≡ true → keeps_of (named_of w) ≡ true → key_of w ≡ named_of w
  unfolding key_of kept_of
  key_kept m k = rw (m, k)

  pub key_other : may_of w ≡ true → keeps_of (named_of w) ≡ false → key_of w ≡ none
  unfolding key_of kept_of
  key_other m k = rw (m, k)

  pub key_still : may_of w ≡ false → key_of w ≡ none
  unfolding key_of
  key_still m = rw m

  -- a key that is a cell
  pub key_cell : key_of w < 1024 → (may_of w ≡ true) × (keeps_of (named_of w) ≡ true)
  key_cell h =
      test (may_of w) (λ m. test (keeps_of (named_of w)) (λ k. (m, k)) (λ k. absurd (omega (arith, key_other m k))))
      (λ m. absurd (omega (arith, key_still m)))

  pub key_keeps : key_of w < 1024 → keeps_of (key_of w) ≡ true
  key_keeps h = let p = key_cell h in ap keeps_of (key_kept p.0 p.1) ∙ p.1

  -- a word is kept under a cell exactly when it names it and can change it
  pub under_named : (c : ℕ) → under w c ≡ true → (may_of w ≡ true) × (named_of w ≡ c)
  under_named c e =
      let k = under_key w c e in
      let v = under_keeps w c e in
      test (may_of w)
      (λ m. test (keeps_of (named_of w)) (λ n. (m, sym (key_kept m n) ∙ k))
      (λ n. never (sym none_keeps ∙ (ap keeps_of (sym (key_other m n) ∙ k) ∙ v))))
      (λ m. never (sym none_keeps ∙ (ap keeps_of (sym (key_still m) ∙ k) ∙ v)))

  pub named_under : (c : ℕ) → keeps_of c ≡ true → may_of w ≡ true → named_of w ≡ c → under w c ≡ true
  named_under c v m e = key_under w c v (key_kept m (ap keeps_of e ∙ v) ∙ e)

keeps_asked : (c : ℕ) → askable_of c ≡ true → keeps_of c ≡ true
unfolding keeps_of
keeps_asked c h = by_test (λ (b : Bool). b ≡ true) (eqb c 0x0F) _ _ (λ _. refl) (λ _. h)

keeps_pointed : keeps_of 0x0F ≡ true
unfolding keeps_of
keeps_pointed = refl

-- a test that does not hold
off : (b : Bool) → (b ≡ true → ⊥) → b ≡ false
off true n = absurd (n refl)
off false n = refl

both_never : (b : Bool) → both b false ≡ false
both_never true = refl
both_never false = refl

both_always : (b : Bool) → both b true ≡ b
both_always true = refl
both_always false = refl

-- The law that ties the two: for every word and every cell that can be asked about, the list's test holds exactly when the word is
-- kept under the cell or under $00F.
pub key_tested : (w c : ℕ) → askable_of c ≡ true → pick (under w c) true (under w 0x0F) ≡ writes_of w c
unfolding names
key_tested w c h = test (may_of w) may (λ m. still m ∙ (sym (both_never (names (named_of w) c)) ∙ (ap (both (names (named_of w) c)) (sym m) ∙ by_bits w c)))
  where
    still : may_of w ≡ false → pick (under w c) true (under w 0x0F) ≡ false
    still m =
        let p = off (under w c) (λ t. never (sym m ∙ (under_named w c t).0)) in
        let q = off (under w 0x0F) (λ t. never (sym m ∙ (under_named w 0x0F t).0)) in
        rw (p, q)

    named_it : may_of w ≡ true → pick (under w c) true (under w 0x0F) ≡ names (named_of w) c
    named_it m =
        test (eqb (named_of w) c) (λ t. let p = named_under w c (keeps_asked c h) m (eqb-true (named_of w) c t) in rw (p, t))
        (λ t.
        let p = off (under w c) (λ u. eqb-false (named_of w) c t (under_named w c u).1) in
        test (eqb (named_of w) 0x0F) (λ v. let q = named_under w 0x0F keeps_pointed m (eqb-true (named_of w) 0x0F v) in rw (p, q, t, v))
        (λ v. let q = off (under w 0x0F) (λ u. eqb-false (named_of w) 0x0F v (under_named w 0x0F u).1) in rw (p, q, t, v)))

    may : may_of w ≡ true → pick (under w c) true (under w 0x0F) ≡ writes_of w c
    may m = named_it m ∙ (sym (both_always (names (named_of w) c)) ∙ (ap (both (names (named_of w) c)) (sym m) ∙ by_bits w c))
