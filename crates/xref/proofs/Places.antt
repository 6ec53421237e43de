-- The places of the tables: what each number is to its cell, and that only one place of a cell's chain leads to an address.
use mathlib.Core.Path.{◌≡◌, ◌∙◌, refl, sym, ap}
use mathlib.Core.Bool.{true}
use mathlib.Core.List.{List}
use Prim.Native.Nat.{ℕ, ◌+◌, ◌-◌, ◌<◌, ◌≤◌}
use native.Mathlib.Omega.{arith}
use lib.Dec.{ltb}
use lib.ListN.{length}
use borrow.Author.Tests.{lt-ltb, le-ltb, ltb-true, ltb-false}
use Rattle.lent.specs.Lent.{at}
use Rattle.lent.proofs.Laws.{test}
use Rattle.tables.specs.Key.{key_of, keeps_of, under}
use Rattle.tables.specs.Tables.{first_of, cell_at, from_at, fresh_at}
use Rattle.tables.proofs.KeyLaws.{under_key, key_under, key_keeps}
use Rattle.tables.proofs.First.{First, first_told, first_before}
use Rattle.xref.specs.Chain.{Leads}

-- where a place's numbers begin
module _ (y : ℕ) where
  pub from_cell : y < 1024 → from_at y ≡ 0
  unfolding from_at
  from_cell h = rw (lt-ltb y 1024 h)

  pub from_link : 1024 ≤ y → from_at y ≡ y - 1024 + 1
  unfolding from_at
  from_link h = rw (le-ltb y 1024 h)

  pub from_most : y < 5120 → from_at y ≤ 4096
  from_most h =
      test (ltb y 1024) (λ t. omega (arith, from_cell (ltb-true y 1024 t)))
      (λ t. let k = ltb-false y 1024 t in omega (arith, from_link k))

module _ (p : List ℕ) where
  pub cell_cell : (y : ℕ) → y < 1024 → cell_at p y ≡ y
  unfolding cell_at
  cell_cell y h = rw (lt-ltb y 1024 h)

  pub cell_link : (y : ℕ) → 1024 ≤ y → cell_at p y ≡ key_of (at p (y - 1024))
  unfolding cell_at
  cell_link y h = rw (le-ltb y 1024 h)

  pub fresh_first : (y : ℕ) → fresh_at p y ≡ first_of p (cell_at p y) (from_at y)
  unfolding fresh_at
  fresh_first y = refl

  -- a word whose key is a cell is kept under it
  pub under_cell : (c b : ℕ) → c < 1024 → key_of (at p b) ≡ c → under (at p b) c ≡ true
  under_cell c b h e = key_under (at p b) c (ap keeps_of (sym e) ∙ key_keeps (at p b) (omega arith)) e

module _ (p : List ℕ) (n : length p ≡ 4096) where
  -- the number at a place is the lowest of its cell
  pub fresh_told : (y : ℕ) → y < 5120 → First p (cell_at p y) (from_at y) (fresh_at p y)
  unfolding fresh_at
  fresh_told y h = first_told p n (cell_at p y) (from_at y) (from_most y h)

  module _ (c a : ℕ) (h : c < 1024) where
    -- of two places that lead to an address neither begins later: the other would lead to the address that it belongs to
    leads_least : (i j : ℕ) → Leads p c a i → Leads p c a j → from_at j ≤ from_at i
    leads_least i j f g =
        test (ltb (from_at i) (from_at j))
        (λ t.
        let k = ltb-true (from_at i) (from_at j) t in
        let l : 1024 ≤ j = test (ltb j 1024) (λ u. absurd (omega (arith, from_cell j (ltb-true j 1024 u)))) (ltb-false j 1024) in
        let z = from_link j l in
        let e : key_of (at p (j - 1024)) ≡ c = sym (cell_link p j l) ∙ g.cell in
        let q : fresh_at p i ≡ first_of p c (from_at i) = fresh_first p i ∙ ap (λ (x : ℕ). first_of p x (from_at i)) f.cell in
        let u = under_cell p c (j - 1024) h e in
        let v = first_before p n c (from_at i) (j - 1024) (omega arith) (omega (arith, g.place)) u in
        absurd (omega (arith, f.past, g.from)))
        (λ t. ltb-false (from_at i) (from_at j) t)

    -- so there is only one
    pub leads_one : (i j : ℕ) → Leads p c a i → Leads p c a j → i ≡ j
    leads_one i j f g =
        let d = leads_least i j f g in
        let e = leads_least j i g f in
        test (ltb i 1024)
        (λ t.
        let k = ltb-true i 1024 t in
        let z = from_cell i k in
        let l : j < 1024 = test (ltb j 1024) (ltb-true j 1024) (λ u. absurd (omega (arith, from_link j (ltb-false j 1024 u)))) in
        sym (cell_cell p i k) ∙ (f.cell ∙ (sym g.cell ∙ cell_cell p j l)))
        (λ t.
        let k = ltb-false i 1024 t in
        let z = from_link i k in
        let l : 1024 ≤ j = test (ltb j 1024) (λ u. absurd (omega (arith, from_cell j (ltb-true j 1024 u)))) (ltb-false j 1024) in
        omega (arith, from_link j l))

  -- the link of the address that a place leads to belongs to the same cell, from behind that address on
  pub place_next : (i : ℕ) → i < 5120 → fresh_at p i < 4096 → (cell_at p (1024 + fresh_at p i) ≡ cell_at p i) × (from_at (1024 + fresh_at p i) ≡ fresh_at p i + 1) × (from_at i ≤ fresh_at p i)
  place_next i k l =
      let r = fresh_told i k in
      let b = fresh_at p i in
      let z : 1024 + b - 1024 ≡ b = omega arith in (
        cell_link p (1024 + b) (omega arith) ∙ (ap (λ (x : ℕ). key_of (at p x)) z ∙ under_key (at p b) (cell_at p i) (r.kept l)),
        omega (arith, from_link (1024 + b) (omega arith)),
        r.from,
      )
