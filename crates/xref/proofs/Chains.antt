-- The tables when one word of a program is replaced: which numbers stay, and which change as the word leaves a cell's chain or joins one.
use mathlib.Core.Path.{◌≡◌, ◌∙◌, refl, sym, ap}
use mathlib.Core.Bool.{true, false}
use mathlib.Core.List.{List}
use Prim.Native.Nat.{ℕ, ◌+◌, ◌-◌, ◌<◌, ◌≤◌}
use native.Mathlib.Omega.{arith}
use lib.Dec.{ltb, eqb}
use lib.ListN.{length, set, length-set}
use lib.Seq.{get_or-set_same, get_or-set_other}
use borrow.Author.Tests.{ltb-true, ltb-false, eqb-true, eqb-false}
use Rattle.lent.specs.Lent.{at}
use Rattle.lent.proofs.Laws.{test, never}
use Rattle.tables.specs.Key.{none, key_of, under}
use Rattle.tables.specs.Tables.{first_of, cell_at, from_at, fresh_at, built_of}
use Rattle.tables.proofs.KeyLaws.{under_none, under_key}
use Rattle.tables.proofs.First.{first_is, first_told, first_skip, first_on, first_never}
use Rattle.tables.proofs.Built.{fresh_link, built_is, built_held}
use Rattle.xref.specs.Chain.{Leads}
use Rattle.xref.proofs.Places.{from_most, from_link, cell_cell, cell_link, fresh_first, under_cell, fresh_told, leads_one}

-- a word with no key is kept under no cell
under_no : (w c : ℕ) → key_of w ≡ none → under w c ≡ false
under_no w c e = test (under w c) (λ t. never (sym (under_none w) ∙ (ap (under w) (sym e ∙ under_key w c t) ∙ t))) (λ t. t)

-- tables of p in which two numbers are replaced are those of q, if these are as q asks and the others do not change
module _ (p q t : List ℕ) (n : 5120 ≤ length t) (g : t ≡ built_of p t) (x y u v : ℕ) where
  two_set : x < 5120 → y < 5120 → u ≡ fresh_at q x → v ≡ fresh_at q y → ((z : ℕ) → z < 5120 → (z ≡ x → ⊥) → (z ≡ y → ⊥) → fresh_at q z ≡ fresh_at p z) → set (set t x u) y v ≡ built_of q t
  two_set i j e f o =
      built_is q t (set (set t x u) y v) (length-set (set t x u) y v ∙ length-set t x u)
      (λ z h. test (eqb z y)
      (λ k.
      let s = eqb-true z y k in
      ap (at (set (set t x u) y v)) s ∙ (get_or-set_same (set t x u) y v 0 (omega (arith, length-set t x u)) ∙ (f ∙ ap (fresh_at q) (sym s))))
      (λ k. get_or-set_other (set t x u) y z v 0 (eqb-false z y k)
      ∙ test (eqb z x) (λ l. let s = eqb-true z x l in ap (at (set t x u)) s ∙ (get_or-set_same t x u 0 (omega arith) ∙ (e ∙ ap (fresh_at q) (sym s))))
      (λ l. get_or-set_other t x z u 0 (eqb-false z x l) ∙ (built_held p t n g z h ∙ sym (o z h (eqb-false z x l) (eqb-false z y k))))))
      (λ z h. get_or-set_other (set t x u) y z v 0 (λ s. omega arith) ∙ get_or-set_other t x z u 0 (λ s. omega arith))

-- Programs p and q of 4,096 words that differ at one address at most.
module _ (p q : List ℕ) (n : length p ≡ 4096) (m : length q ≡ 4096) (a : ℕ) (h : a < 4096) (s : (b : ℕ) → (b ≡ a → ⊥) → at q b ≡ at p b) where
  -- the lowest address under a cell is the same, unless that address is met first and is kept under the cell in one of them
  first_same : (c f : ℕ) → f ≤ 4096 → (f ≤ a → a ≤ first_of p c f → (under (at p a) c ≡ false) × (under (at q a) c ≡ false)) → first_of q c f ≡ first_of p c f
  first_same c f k g =
      let r = first_told p n c f k in
      first_is q m c f (first_of p c f)
      (record {
        from = r.from;
        most = r.most;
        kept = λ v. test (eqb (first_of p c f) a)
            (λ t.
            let e = eqb-true (first_of p c f) a t in
            let u = (g (omega (arith, r.from)) (omega arith)).0 in
            never (sym u ∙ (ap (λ (b : ℕ). under (at p b) c) (sym e) ∙ r.kept v)))
            (λ t. ap (λ (w : ℕ). under w c) (s (first_of p c f) (eqb-false (first_of p c f) a t)) ∙ r.kept v);
        others = λ b u v. test (eqb b a)
            (λ t. let e = eqb-true b a t in ap (λ (b : ℕ). under (at q b) c) e ∙ (g (omega arith) (omega arith)).1)
            (λ t. ap (λ (w : ℕ). under w c) (s b (eqb-false b a t)) ∙ r.others b u v);
      })

  -- another place than the address's own belongs to the same cell
  cell_same : (y : ℕ) → (y ≡ 1024 + a → ⊥) → cell_at q y ≡ cell_at p y
  cell_same y e =
      test (ltb y 1024) (λ t. let k = ltb-true y 1024 t in cell_cell q y k ∙ sym (cell_cell p y k))
      (λ t. let k = ltb-false y 1024 t in cell_link q y k ∙ (ap key_of (s (y - 1024) (λ z. e (omega arith))) ∙ sym (cell_link p y k)))

  fresh_there : (y : ℕ) → (y ≡ 1024 + a → ⊥) → fresh_at q y ≡ first_of q (cell_at p y) (from_at y)
  fresh_there y e = fresh_first q y ∙ ap (λ (c : ℕ). first_of q c (from_at y)) (cell_same y e)

  fresh_same : (y : ℕ) → y < 5120 → (y ≡ 1024 + a → ⊥) → (from_at y ≤ a → a ≤ fresh_at p y → (under (at p a) (cell_at p y) ≡ false) × (under (at q a) (cell_at p y) ≡ false)) → fresh_at q y ≡ fresh_at p y
  unfolding fresh_at
  fresh_same y k e g = fresh_there y e ∙ first_same (cell_at p y) (from_at y) (from_most y k) g

  -- the own place of an address that is kept under no cell
  fresh_none : (r : List ℕ) → key_of (at r a) ≡ none → fresh_at r (1024 + a) ≡ none
  fresh_none r e = fresh_link r a ∙ (ap (λ (c : ℕ). first_of r c (a + 1)) e ∙ first_never r none (a + 1) under_none)

  -- no key before and none after: the tables stay
  pub still : (t : List ℕ) → 5120 ≤ length t → t ≡ built_of p t → key_of (at p a) ≡ none → key_of (at q a) ≡ none → t ≡ built_of q t
  still t r g e f =
      built_is q t t refl
      (λ y k. built_held p t r g y k
      ∙ sym (test (eqb y (1024 + a))
      (λ v. let z = eqb-true y (1024 + a) v in rw z (fresh_none q f ∙ sym (fresh_none p e)))
      (λ v. fresh_same y k (eqb-false y (1024 + a) v) (λ _ _. (under_no (at p a) (cell_at p y) e, under_no (at q a) (cell_at p y) f)))))
      (λ y k. refl)

  -- A place in the chain of cell c that leads to the address, which is kept under no cell but c before and after.
  module _ (c : ℕ) (k : c < 1024) (i : ℕ) (l : Leads p c a i) where
    own_place : i ≡ 1024 + a → ⊥
    own_place e = omega (arith, l.from, from_link i (omega arith))

    -- but for that place and the address's own no number changes
    others : ((x : ℕ) → under (at p a) x ≡ true → x ≡ c) → ((x : ℕ) → under (at q a) x ≡ true → x ≡ c) → (y : ℕ) → y < 5120 → (y ≡ 1024 + a → ⊥) → (y ≡ i → ⊥) → fresh_at q y ≡ fresh_at p y
    others f g y v e d = fresh_same y v e (λ o u. (other (at p a) f o u, other (at q a) g o u))
      where
        other : (w : ℕ) → ((x : ℕ) → under w x ≡ true → x ≡ c) → from_at y ≤ a → a ≤ fresh_at p y → under w (cell_at p y) ≡ false
        other w z o u =
            test (under w (cell_at p y))
            (λ t. absurd (d (leads_one p n c a k y i (record { place = v; cell = z (cell_at p y) t; from = o; past = u }) l))) (λ t. t)

    fresh_before : fresh_at p i ≡ first_of p c (from_at i)
    fresh_before = fresh_first p i ∙ ap (λ (x : ℕ). first_of p x (from_at i)) l.cell

    fresh_after : fresh_at q i ≡ first_of q c (from_at i)
    fresh_after = fresh_there i own_place ∙ ap (λ (x : ℕ). first_of q x (from_at i)) l.cell

    -- no word between where that place begins and the address is kept under the cell
    passed : (b : ℕ) → from_at i ≤ b → b < a → under (at q b) c ≡ false
    passed b u v =
        ap (λ (w : ℕ). under w c) (s b (λ e. omega arith))
        ∙ (ap (under (at p b)) (sym l.cell) ∙ (fresh_told p n i l.place).others b u (omega (arith, l.past)))

    -- from behind the address on nothing changes
    first_behind : first_of q c (a + 1) ≡ first_of p c (a + 1)
    first_behind = first_same c (a + 1) (omega arith) (λ u. absurd (omega arith))

    -- the address leaves the chain
    module _ (e : key_of (at p a) ≡ c) (f : key_of (at q a) ≡ none) where
      unlink_before : fresh_at q i ≡ fresh_at p (1024 + a)
      unlink_before =
          let r = first_told q m c (a + 1) (omega arith) in
          fresh_after
          ∙ (first_is q m c (from_at i) (first_of q c (a + 1))
          (record {
            from = omega (arith, r.from, l.from);
            most = r.most;
            kept = r.kept;
            others = λ b u v. test (ltb b a) (λ t. passed b u (ltb-true b a t))
                (λ t. test (eqb b a)
                (λ z. ap (λ (x : ℕ). under (at q x) c) (eqb-true b a z) ∙ under_no (at q a) c f)
                (λ z. let g = ltb-false b a t in let d = eqb-false b a z in r.others b (omega arith) v));
          })
          ∙ (first_behind ∙ (sym (ap (λ (x : ℕ). first_of p x (a + 1)) e) ∙ sym (fresh_link p a))))

      pub unlinked : (t : List ℕ) → 5120 ≤ length t → t ≡ built_of p t → set (set t i (at t (1024 + a))) (1024 + a) none ≡ built_of q t
      unlinked t r g =
          two_set p q t r g i (1024 + a) (at t (1024 + a)) none l.place (omega arith) (built_held p t r g (1024 + a) (omega arith) ∙ sym unlink_before) (sym (fresh_none q f))
          (λ y v d o. others (λ x t. sym (under_key (at p a) x t) ∙ e) (λ x t. never (sym (under_no (at q a) x f) ∙ t)) y v o d)

    -- the address joins the chain
    module _ (e : key_of (at p a) ≡ none) (f : key_of (at q a) ≡ c) where
      link_own : fresh_at q (1024 + a) ≡ fresh_at p i
      link_own =
          fresh_link q a
          ∙ (ap (λ (x : ℕ). first_of q x (a + 1)) f
          ∙ (first_behind
          ∙ (sym (first_on p c a (omega arith) (under_no (at p a) c e))
          ∙ (first_skip p n c (from_at i) a l.from (omega (arith, fresh_before, l.past)) ∙ sym fresh_before))))

      link_before : fresh_at q i ≡ a
      link_before =
          fresh_after
          ∙ first_is q m c (from_at i) a
          (record { from = l.from; most = omega arith; kept = λ _. under_cell q c a k f; others = passed })

      pub linked : (t : List ℕ) → 5120 ≤ length t → t ≡ built_of p t → set (set t (1024 + a) (at t i)) i a ≡ built_of q t
      linked t r g =
          two_set p q t r g (1024 + a) i (at t i) a (omega arith) l.place (built_held p t r g i l.place ∙ sym link_own) (sym link_before)
          (others (λ x t. never (sym (under_no (at p a) x e) ∙ t)) (λ x t. sym (under_key (at q a) x t) ∙ f))
