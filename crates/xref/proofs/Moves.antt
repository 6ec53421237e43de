-- A program and its tables as a word is replaced in them: in the three ways that the tables follow, and one after another.
use mathlib.Core.Path.{◌≡◌, ◌∙◌, refl, sym, ap}
use mathlib.Core.List.{List}
use Prim.Native.Nat.{ℕ, ◌+◌, ◌*◌, ◌<◌}
use native.Mathlib.Omega.{arith}
use lib.ListN.{length, set}
use Rattle.lent.specs.Lent.{at, pair_set_of}
use Rattle.lent.proofs.Laws.{test}
use Rattle.writers.specs.Bits.{named_of, row_of, may_of}
use Rattle.wire.specs.Words.{words_of}
use Rattle.wire.proofs.Laws.{length_words, length_pair_set}
use Rattle.tables.specs.Key.{none, keeps_of, key_of}
use Rattle.tables.specs.Tables.{built_of}
use Rattle.tables.proofs.KeyLaws.{named_small, key_kept, key_other, key_still}
use Rattle.tables.proofs.Built.{length_built, built_again}
use Rattle.xref.specs.Chain.{Held, Leads, Moved}
use Rattle.xref.proofs.Words.{pair_again, replaced_here, replaced_there}
use Rattle.xref.proofs.Chains.{still, unlinked, linked}

-- a word is kept under a cell or under none
pub key_small : (w : ℕ) → (key_of w ≡ none → ⊥) → key_of w < 1024
key_small w e =
    test (may_of w)
    (λ m. test (keeps_of (named_of w)) (λ k. omega (arith, key_kept w m k, named_small w)) (λ k. absurd (e (key_other w m k))))
    (λ m. absurd (e (key_still w m)))

-- NOP is kept under none
pub nop_none : key_of 0xFFFF ≡ none
unfolding key_of may_of row_of
nop_none = refl

-- A program and tables, and what they are after a word has been replaced.
module _ (b t : List ℕ) (a w : ℕ) (g : Held b t) (h : a < 4096) (k : w < 65536) (b' t' : List ℕ) (o : b' ≡ pair_set_of b (a * 2) w) where
  abbrev p : List ℕ
  p = words_of b 4096

  abbrev q : List ℕ
  q = words_of (pair_set_of b (a * 2) w) 4096

  n : length p ≡ 4096
  n = length_words b 4096

  m : length q ≡ 4096
  m = length_words (pair_set_of b (a * 2) w) 4096

  moved : t' ≡ built_of q t → Moved b t a w b' t'
  moved e = record { program = o; tables = e ∙ ap (λ (x : List ℕ). built_of (words_of x 4096) t) (sym o) }

  key_here : key_of (at q a) ≡ key_of w
  key_here = ap key_of (replaced_here b a w g.size h k)

  pub moved_still : key_of (at p a) ≡ none → key_of w ≡ none → t' ≡ t → Moved b t a w b' t'
  moved_still e f z = moved (z ∙ still p q n m a h (replaced_there b a w) t g.room g.fresh e (key_here ∙ f))

  module _ (c i : ℕ) (l : c < 1024) (r : Leads p c a i) where
    pub moved_out : key_of (at p a) ≡ c → key_of w ≡ none → t' ≡ set (set t i (at t (1024 + a))) (1024 + a) none → Moved b t a w b' t'
    moved_out e f z = moved (z ∙ unlinked p q n m a h (replaced_there b a w) c l i r e (key_here ∙ f) t g.room g.fresh)

    pub moved_in : key_of (at p a) ≡ none → key_of w ≡ c → t' ≡ set (set t (1024 + a) (at t i)) i a → Moved b t a w b' t'
    moved_in e f z = moved (z ∙ linked p q n m a h (replaced_there b a w) c l i r e (key_here ∙ f) t g.room g.fresh)

-- what has been moved can be moved again
module _ (b t : List ℕ) (a w : ℕ) (b' t' : List ℕ) (r : Moved b t a w b' t') where
  pub moved_held : Held b t → Held b' t'
  moved_held g = record {
    size = ap length r.program ∙ (length_pair_set b (a * 2) w ∙ g.size);
    room = omega (arith, ap length r.tables, length_built (words_of b' 4096) t, g.room);
    fresh = r.tables ∙ (sym (built_again (words_of b' 4096) (words_of b' 4096) t) ∙ ap (built_of (words_of b' 4096)) (sym r.tables));
  }

  pub moved_key : Held b t → a < 4096 → w < 65536 → key_of (at (words_of b' 4096) a) ≡ key_of w
  moved_key g h k = ap (λ (x : List ℕ). key_of (at (words_of x 4096) a)) r.program ∙ ap key_of (replaced_here b a w g.size h k)

  pub moved_twice : (v : ℕ) (b'' t'' : List ℕ) → Moved b' t' a v b'' t'' → Moved b t a v b'' t''
  moved_twice v b'' t'' s = record {
    program = s.program ∙ (ap (λ (x : List ℕ). pair_set_of x (a * 2) v) r.program ∙ pair_again b (a * 2) w v);
    tables = s.tables ∙ (ap (built_of (words_of b'' 4096)) r.tables ∙ built_again (words_of b'' 4096) (words_of b' 4096) t);
  }
