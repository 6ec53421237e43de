-- Two chains walked together: what is still to be taken of the addresses kept under a cell or under $00F.
use mathlib.Core.Path.{◌≡◌, ◌∙◌, refl, sym, ap}
use mathlib.Core.Bool.{Bool, true, false}
use mathlib.Core.List.{List, [], ◌∷◌}
use Prim.Native.Nat.{ℕ, zero, suc, ◌+◌, ◌-◌, ◌<◌, ◌≤◌}
use native.Mathlib.Omega.{arith}
use native.Mathlib.Nat.{zero-add}
use lib.Dec.{ltb, eqb}
use lib.ListN.{length, drop, set, drop_of_length-le, length-set}
use borrow.Author.Tests.{eqb-true, eqb-false}
use Rattle.lent.specs.Lent.{pick, at, over}
use Rattle.lent.proofs.Laws.{test, by_choice, by_lt, drop_more}
use Rattle.sh_map.specs.Map.{askable_of}
use Rattle.writers.proofs.Laws.{placed, placed_start, placed_end, placed_on}
use Rattle.writers.specs.Test.{writes_of}
use Rattle.writers.specs.List.{writers_from, writers_of}
use Rattle.tables.specs.Key.{key_of, under}
use Rattle.tables.specs.Tables.{first_of}
use Rattle.tables.proofs.KeyLaws.{under_key, key_tested}
use Rattle.tables.proofs.First.{First, first_told, first_on, first_skip}
use Rattle.xref.specs.Chain.{least_of, after_of}
use Rattle.xref.specs.Answer.{joined_from, joined_of}

-- The walk: n addresses stand in the room, those from a on are still to be taken, and a is the lower of the two chains' next ones.
pub record Joining (p : List ℕ) (c own pointed a n : ℕ) (found found₀ : List ℕ) : Type 0 where
  pub most : a ≤ 4096
  pub owned : own ≡ first_of p c a
  pub through : pointed ≡ first_of p 0x0F a
  pub least : a ≡ least_of own pointed
  pub size : length found ≡ 4096
  pub count : n + length (joined_from c (drop a p) a) ≡ length (joined_of p c)
  pub holds : placed n (joined_from c (drop a p) a) found ≡ over (joined_of p c) found₀

-- What is joined is demand 3's list (the calls' own theorem is `Theorems` `answer_exact`).
exact_from : (c a : ℕ) (p : List ℕ) → askable_of c ≡ true → joined_from c p a ≡ writers_from a p c
unfolding joined_from writers_from
exact_from c a [] h = refl
exact_from c a (w ∷ p) h = rw (key_tested w c h, exact_from c (a + 1) p h)

pub joined_exact : (p : List ℕ) (c : ℕ) → askable_of c ≡ true → joined_of p c ≡ writers_of p c
unfolding joined_of writers_of
joined_exact p c h = exact_from c 0 p h

few_from : (c a : ℕ) (p : List ℕ) → length (joined_from c p a) ≤ length p
unfolding joined_from
few_from c a [] = omega arith
few_from c a (w ∷ p) =
    by_choice (λ (l : List ℕ). length l ≤ suc (length p)) (pick (under w c) true (under w 0x0F)) _ _
    (omega (arith, few_from c (a + 1) p)) (omega (arith, few_from c (a + 1) p))

-- no more than words
pub joined_few : (p : List ℕ) (c : ℕ) → length (joined_of p c) ≤ length p
unfolding joined_of
joined_few p c = few_from c 0 p

pub least_left : (a b : ℕ) → least_of a b ≤ a
unfolding least_of
least_left a b = by_lt (λ (m : ℕ). m ≤ a) a b _ _ (λ h. omega arith) (λ h. h)

pub least_right : (a b : ℕ) → least_of a b ≤ b
unfolding least_of
least_right a b = by_lt (λ (m : ℕ). m ≤ b) a b _ _ (λ h. omega arith) (λ h. omega arith)

-- what holds of both numbers holds of the least
least_one : (P : ℕ → Type 0) (a b : ℕ) → P a → P b → P (least_of a b)
unfolding least_of
least_one P a b x y = by_choice P (ltb a b) a b x y

module _ (p : List ℕ) (n : length p ≡ 4096) (c : ℕ) where
  -- what is still to be taken from address a on
  abbrev pub rest : ℕ → List ℕ
  rest a = joined_from c (drop a p) a

  pub rest_past : (a : ℕ) → 4096 ≤ a → rest a ≡ []
  unfolding joined_from
  rest_past a h = rw (drop_of_length-le p {i = a} (omega arith))

  pub rest_all : rest 0 ≡ joined_of p c
  unfolding joined_of
  rest_all = refl

  module _ (a : ℕ) (h : a < 4096) where
    rest_here : pick (under (at p a) c) true (under (at p a) 0x0F) ≡ true → rest a ≡ a ∷ rest (a + 1)
    unfolding joined_from
    rest_here e = rw (drop_more p a (omega arith), e)

    rest_on : pick (under (at p a) c) true (under (at p a) 0x0F) ≡ false → rest a ≡ rest (a + 1)
    unfolding joined_from
    rest_on e = rw (drop_more p a (omega arith), e)

  -- up to the lower of the two first addresses there is nothing to take
  rest_skip : (d a : ℕ) → a + d ≤ 4096 → a + d ≤ first_of p c a → a + d ≤ first_of p 0x0F a → rest a ≡ rest (a + d)
  rest_skip zero a h i j = let z : a + 0 ≡ a = omega arith in rw z
  rest_skip (suc d) a h i j =
      let u = (first_told p n c a (omega arith)).others a (omega arith) (omega arith) in
      let v = (first_told p n 0x0F a (omega arith)).others a (omega arith) (omega arith) in
      let z : a + suc d ≡ a + 1 + d = omega arith in
      let f = first_on p c a (omega arith) u in
      let g = first_on p 0x0F a (omega arith) v in
      rest_on a (omega arith) (rw (u, v)) ∙ (rest_skip d (a + 1) (omega arith) (omega arith) (omega arith) ∙ ap rest (sym z))

  -- The two chains at address b: both numbers are the first from b on.
  module _ (b own pointed : ℕ) (h : b ≤ 4096) (e : own ≡ first_of p c b) (f : pointed ≡ first_of p 0x0F b) where
    abbrev a : ℕ
    a = least_of own pointed

    pub least_from : b ≤ a
    least_from = least_one (λ (m : ℕ). b ≤ m) own pointed (omega (arith, (first_told p n c b h).from)) (omega (arith, (first_told p n 0x0F b h).from))

    pub least_most : a ≤ 4096
    least_most = omega (arith, least_left own pointed, (first_told p n c b h).most)

    pub own_there : own ≡ first_of p c a
    own_there = e ∙ sym (first_skip p n c b a least_from (omega (arith, least_left own pointed)))

    pub pointed_there : pointed ≡ first_of p 0x0F a
    pointed_there = f ∙ sym (first_skip p n 0x0F b a least_from (omega (arith, least_right own pointed)))

    pub rest_there : rest b ≡ rest a
    rest_there =
        let z : b + (a - b) ≡ a = omega (arith, least_from) in
        rest_skip (a - b) b (omega (arith, least_most)) (omega (arith, least_left own pointed)) (omega (arith, least_right own pointed)) ∙ ap rest z

  -- the chain of a cell past the address taken
  pub after_is : (k a i m : ℕ) → a < 4096 → i ≡ first_of p k a → m ≡ first_of p (key_of (at p a)) (a + 1) → after_of i a m ≡ first_of p k (a + 1)
  unfolding after_of
  after_is k a i m h e f =
      let r = first_told p n k a (omega arith) in
      test (eqb i a)
      (λ t.
      let q = eqb-true i a t in
      let z : first_of p k a ≡ a = sym e ∙ q in
      let u : under (at p a) k ≡ true = rw z at (r.kept (omega arith)) in
      rw t (f ∙ ap (λ (x : ℕ). first_of p x (a + 1)) (under_key (at p a) k u)))
      (λ t.
      let q = eqb-false i a t in
      rw t (e ∙ first_on p k a (omega arith) (r.others a (omega arith) (omega (arith, r.from)))))

  -- the least is taken: one of the two chains has it
  pub rest_taken : (a own pointed : ℕ) → a < 4096 → own ≡ first_of p c a → pointed ≡ first_of p 0x0F a → a ≡ least_of own pointed → rest a ≡ a ∷ rest (a + 1)
  rest_taken a own pointed h e f g =
      rest_here a h
      (test (under (at p a) c) (λ t. rw t)
      (λ t.
      test (under (at p a) 0x0F) (λ u. rw (t, u))
      (λ u.
      let x = first_on p c a (omega arith) t in
      let y = first_on p 0x0F a (omega arith) u in
      let i = (first_told p n c (a + 1) (omega arith)).from in
      let j = (first_told p n 0x0F (a + 1) (omega arith)).from in
      let k : a + 1 ≤ least_of own pointed = least_one (λ (m : ℕ). a + 1 ≤ m) own pointed (omega arith) (omega arith) in
      absurd (omega arith))))

  pub joining_start : (own pointed a : ℕ) (found : List ℕ) → own ≡ first_of p c 0 → pointed ≡ first_of p 0x0F 0 → a ≡ least_of own pointed → length found ≡ 4096
      → Joining p c own pointed a 0 found found
  joining_start own pointed a found e f g m =
      let s : rest a ≡ joined_of p c = ap rest g ∙ (sym (rest_there 0 own pointed (omega arith) e f) ∙ rest_all) in
      record {
        most = omega (arith, least_most 0 own pointed (omega arith) e f);
        owned = own_there 0 own pointed (omega arith) e f ∙ ap (first_of p c) (sym g);
        through = pointed_there 0 own pointed (omega arith) e f ∙ ap (first_of p 0x0F) (sym g);
        least = g;
        size = m;
        count = zero-add _ ∙ ap length s;
        holds = ap (λ (l : List ℕ). placed 0 l found) s ∙ placed_start (joined_of p c) found;
      }

  module _ (own pointed a k : ℕ) (found found₀ : List ℕ) (j : Joining p c own pointed a k found found₀) where
    pub joining_room : a < 4096 → k < length found
    joining_room h =
        omega (arith, ap length (rest_taken a own pointed h j.owned j.through j.least), j.count, j.size, joined_few p c)

    pub joining_on : a < 4096 → (m own' pointed' a' : ℕ) → m ≡ first_of p (key_of (at p a)) (a + 1) → own' ≡ after_of own a m → pointed' ≡ after_of pointed a m
        → a' ≡ least_of own' pointed' → (a < a') × Joining p c own' pointed' a' (k + 1) (set found k a) found₀
    joining_on h m own' pointed' a' e f g i =
        let x = f ∙ after_is c a own m h j.owned e in
        let y = g ∙ after_is 0x0F a pointed m h j.through e in
        let t = rest_taken a own pointed h j.owned j.through j.least in
        let s : rest (a + 1) ≡ rest a' = rest_there (a + 1) own' pointed' (omega arith) x y ∙ ap rest (sym i) in
        let u : rest a ≡ a ∷ rest a' = t ∙ ap (λ (l : List ℕ). a ∷ l) s in
        let v = ap length u in (
          omega (arith, least_from (a + 1) own' pointed' (omega arith) x y),
          record {
            most = omega (arith, least_most (a + 1) own' pointed' (omega arith) x y);
            owned = own_there (a + 1) own' pointed' (omega arith) x y ∙ ap (first_of p c) (sym i);
            through = pointed_there (a + 1) own' pointed' (omega arith) x y ∙ ap (first_of p 0x0F) (sym i);
            least = i;
            size = length-set found k a ∙ j.size;
            count = omega (arith, v, j.count);
            holds = placed_on k a (rest a') found (joining_room h) ∙ (ap (λ (l : List ℕ). placed k l found) (sym u) ∙ j.holds);
          },
        )

    pub joining_end : 4096 ≤ a → (k ≡ length (joined_of p c)) × (found ≡ over (joined_of p c) found₀)
    joining_end h =
        let z = rest_past a h in
        (omega (arith, ap length z, j.count), sym (placed_end k found) ∙ (ap (λ (l : List ℕ). placed k l found) (sym z) ∙ j.holds))
