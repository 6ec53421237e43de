-- The entries of a program's tables are exactly its words that are kept under the cell, ascending.
use mathlib.Core.Path.{◌≡◌, ◌∙◌, refl, sym, ap}
use mathlib.Core.Logic.{inl, inr, ⊎_elim}
use mathlib.Core.Bool.{true, false}
use mathlib.Core.List.{List, [], ◌∷◌}
use Prim.Native.Nat.{ℕ, zero, suc, ◌+◌, ◌<◌, ◌≤◌}
use native.Mathlib.Omega.{arith}
use lib.Dec.{ltb, eqb}
use lib.ListN.{length}
use borrow.Author.Tests.{eqb-true, eqb-false}
use Rattle.lent.specs.Lent.{pick, at}
use Rattle.lent.proofs.Laws.{test, by_lt, never}
use Rattle.writers.specs.List.{Up, Has}
use Rattle.tables.specs.Key.{none, key_of, under}
use Rattle.tables.specs.Tables.{first_of, built_of}
use Rattle.tables.proofs.KeyLaws.{under_key}
use Rattle.tables.proofs.First.{First, first_told, first_before}
use Rattle.tables.proofs.Built.{fresh_cell, fresh_link, built_held}
use Rattle.xref.specs.Entries.{chain_from, entries_of, Entry}

module _ (p : List ℕ) (n : length p ≡ 4096) (t : List ℕ) (h : 5120 ≤ length t) (e : t ≡ built_of p t) (c : ℕ) where
  -- the link of an address kept under the cell
  link_there : (m : ℕ) → m < 4096 → under (at p m) c ≡ true → at t (1024 + m) ≡ first_of p c (m + 1)
  link_there m k u =
      built_held p t h e (1024 + m) (omega arith) ∙ (fresh_link p m ∙ ap (λ (x : ℕ). first_of p x (m + 1)) (under_key (at p m) c u))

  -- What a chain has from address b on, if it may be long enough.
  module _ (x : ℕ) where
    chain_only : (d b : ℕ) → b ≤ 4096 → 4096 ≤ d + b → Has x (chain_from d t (first_of p c b)) → (b ≤ x) × (x < 4096) × (under (at p x) c ≡ true)
    unfolding chain_from
    chain_only zero b i j = λ y. absurd y
    chain_only (suc d) b i j =
        let r = first_told p n c b i in
        by_lt (λ l. Has x l → (b ≤ x) × (x < 4096) × (under (at p x) c ≡ true)) (first_of p c b) none _ _
        (λ k. ⊎_elim (λ q. (omega (arith, r.from), omega arith, rw q (r.kept k)))
        (λ y.
        let s = chain_only d (first_of p c b + 1) (omega arith) (omega (arith, r.from)) (rw (← link_there (first_of p c b) k (r.kept k)) y) in
        (omega (arith, r.from, s.0), s.1, s.2)))
        (λ k y. absurd y)

    chain_every : (d b : ℕ) → b ≤ 4096 → 4096 ≤ d + b → b ≤ x → x < 4096 → under (at p x) c ≡ true → Has x (chain_from d t (first_of p c b))
    unfolding chain_from
    chain_every zero b i j k l u = absurd (omega arith)
    chain_every (suc d) b i j k l u =
        let r = first_told p n c b i in
        let m = first_before p n c b x k l u in
        by_lt (Has x) (first_of p c b) none _ _
        (λ v. test (eqb x (first_of p c b)) (λ q. inl (eqb-true x (first_of p c b) q))
        (λ q.
        let z = eqb-false x (first_of p c b) q in
        inr (rw (link_there (first_of p c b) v (r.kept v)) (chain_every d (first_of p c b + 1) (omega arith) (omega (arith, r.from)) (omega arith) l u))))
        (λ v. absurd (omega arith))

  chain_up : (d b k : ℕ) → k ≤ b → b ≤ 4096 → Up k (chain_from d t (first_of p c b))
  unfolding chain_from
  chain_up zero b k i j = tt
  chain_up (suc d) b k i j =
      let r = first_told p n c b j in
      by_lt (Up k) (first_of p c b) none _ _
      (λ v. (omega (arith, r.from), rw (link_there (first_of p c b) v (r.kept v)) (chain_up d (first_of p c b + 1) (first_of p c b + 1) (omega arith) (omega arith))))
      (λ v. tt)

  module _ (k : c < 1024) where
    head_there : at t c ≡ first_of p c 0
    head_there = built_held p t h e c (omega arith) ∙ fresh_cell p c k

    -- "its writers, ascending"
    pub entries_up : Up 0 (entries_of t c)
    unfolding entries_of
    entries_up = rw head_there (chain_up 4096 0 0 (omega arith) (omega arith))

    pub entry_kept : (x : ℕ) → Entry t c x → (x < 4096) × (under (at p x) c ≡ true)
    unfolding entries_of
    entry_kept x y = let r = chain_only x 4096 0 (omega arith) (omega arith) (rw (← head_there) y) in (r.1, r.2)

    pub kept_entry : (x : ℕ) → x < 4096 → under (at p x) c ≡ true → Entry t c x
    unfolding entries_of
    kept_entry x l u = rw head_there (chain_every x 4096 0 (omega arith) (omega arith) (omega arith) l u)
