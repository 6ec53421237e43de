-- A pass over a program, from its last word to its first: what the slots and the tables hold where the words from a on have been passed.
use mathlib.Core.Path.{◌≡◌, ◌∙◌, refl, sym, ap}
use mathlib.Core.List.{List}
use Prim.Native.Nat.{ℕ, ◌+◌, ◌-◌, ◌<◌, ◌≤◌}
use native.Mathlib.Omega.{arith}
use lib.Dec.{ltb, eqb}
use lib.ListN.{length, set, replicate, length-set, length-replicate, get_or-replicate}
use lib.Seq.{get_or-set_same, get_or-set_other}
use borrow.Author.Tests.{ltb-true, ltb-false, le-ltb, eqb-true, eqb-false}
use Rattle.lent.specs.Lent.{at}
use Rattle.lent.proofs.Laws.{test, by_lt}
use Rattle.tables.specs.Key.{none}
use Rattle.tables.specs.Tables.{fresh_at, built_of}
use Rattle.tables.specs.Pass.{slot_of, place_of, head_of, Ruled, SameHeads, Headed}
use Rattle.tables.proofs.First.{first_past}
use Rattle.tables.proofs.Slots.{slot_small, slot_first, slots_on}
use Rattle.tables.proofs.Built.{fresh_cell, fresh_link, built_is, built_held}

-- the slots h where the words from a on have been passed
abbrev pub Slotted : List ℕ → List ℕ → ℕ → Type 0
Slotted p h a = (length h ≡ 1153) × ((x : ℕ) → x < 1152 → at h x ≡ head_of p x a)

-- the links of the addresses from a on
abbrev pub Linked : List ℕ → List ℕ → ℕ → Type 0
Linked p t a = (b : ℕ) → a ≤ b → b < 4096 → at t (1024 + b) ≡ fresh_at p (1024 + b)

module _ (p : List ℕ) (n : length p ≡ 4096) where
  pub slots_start : Slotted p (replicate 1153 none) 4096
  unfolding head_of
  slots_start = (
    length-replicate {A = ℕ} 1153 none,
    λ x h. get_or-replicate {A = ℕ} 1153 x none 0 (omega arith)
        ∙ by_lt (λ (v : ℕ). none ≡ v) x 128 _ _ (λ _. refl) (λ _. sym (first_past p (x - 128) 4096 (omega arith))),
  )

  module _ (a : ℕ) (i : a < 4096) (h : List ℕ) (s : Slotted p h (a + 1)) (x : ℕ) (e : x ≡ slot_of (at p a)) where
    -- what the slot of the word at a holds is its address's link
    pub link_here : at h x ≡ fresh_at p (1024 + a)
    link_here =
        let k = slot_small (at p a) in
        ap (at h) e ∙ (s.1 (slot_of (at p a)) k ∙ (slot_first (at p a) p (a + 1) ∙ sym (fresh_link p a)))

    pub slots_next : (l : List ℕ) → Ruled place_of 1152 l → Slotted p (set h (at l x) a) a
    slots_next l r =
        let k = slot_small (at p a) in
        let z : at l x ≡ place_of (slot_of (at p a)) = ap (at l) e ∙ r.1 (slot_of (at p a)) k in (
          length-set h (at l x) a ∙ s.0,
          λ y j. ap (λ (q : ℕ). at (set h q a) y) z ∙ slots_on p h a (omega arith) s.0 s.1 y j,
        )

  -- one link more stands
  pub links_next : (t : List ℕ) (a : ℕ) → Linked p t (a + 1) → at t (1024 + a) ≡ fresh_at p (1024 + a) → Linked p t a
  links_next t a l e b h k =
      test (eqb b a) (λ q. let z = eqb-true b a q in rw z e) (λ q. let z = eqb-false b a q in l b (omega arith) k)

  pub links_stored : (t : List ℕ) (a v : ℕ) → a < 4096 → 5120 ≤ length t → Linked p t (a + 1) → v ≡ fresh_at p (1024 + a) → Linked p (set t (1024 + a) v) a
  links_stored t a v h k l e =
      links_next (set t (1024 + a) v) a
      (λ b i j. get_or-set_other t (1024 + a) (1024 + b) v 0 (λ q. absurd (omega arith)) ∙ l b i j)
      (get_or-set_same t (1024 + a) v 0 (omega arith) ∙ e)

  head_at : (h : List ℕ) → Slotted p h 0 → (i : ℕ) → i < 1024 → at h (i + 128) ≡ fresh_at p i
  unfolding head_of
  head_at h s i k =
      let z : i + 128 - 128 ≡ i = omega arith in
      s.1 (i + 128) (omega arith) ∙ rw (le-ltb (i + 128) 128 (omega arith), z) (sym (fresh_cell p i k))

  -- cells and addresses together are the places
  places_all : (t : List ℕ) → ((i : ℕ) → i < 1024 → at t i ≡ fresh_at p i) → Linked p t 0 → (i : ℕ) → i < 5120 → at t i ≡ fresh_at p i
  places_all t f l i h =
      test (ltb i 1024) (λ k. f i (ltb-true i 1024 k))
      (λ k.
      let j = ltb-false i 1024 k in
      let z : 1024 + (i - 1024) ≡ i = omega arith in
      rw z at (l (i - 1024) (omega arith) (omega arith)))

  module _ (t h : List ℕ) (s : Slotted p h 0) (l : Linked p t 0) where
    -- with the cells' numbers the tables are written
    pub written : (t₀ t' : List ℕ) → length t ≡ length t₀ → ((i : ℕ) → 5120 ≤ i → at t i ≡ at t₀ i) → Headed h t t' → t' ≡ built_of p t₀
    written t₀ t' m g e =
        built_is p t₀ t' (e.size ∙ m)
        (places_all t' (λ i k. e.heads i k ∙ head_at h s i k) (λ b j k. e.others (1024 + b) (omega arith) ∙ l b j k))
        (λ i k. e.others i (omega arith) ∙ g i k)

    pub same_built : SameHeads h t → t ≡ built_of p t
    same_built e = built_is p t t refl (places_all t (λ i k. e i k ∙ head_at h s i k) l) (λ i k. refl)

    pub built_same : 5120 ≤ length t → t ≡ built_of p t → SameHeads h t
    built_same m e i k = built_held p t m e i (omega arith) ∙ sym (head_at h s i k)
