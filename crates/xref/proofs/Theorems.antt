-- What the calls say (02, P7): an answer is demand 3's list, replacing gives what a fresh build gives and alters no other entry, and 29
-- is told exactly when the tables are not the fresh build's.
use Rattle.std.specs.Prelude.{Err, Ok, Result}
use mathlib.Core.Path.{◌≡◌, ◌∙◌, refl, sym, ap}
use mathlib.Core.Logic.{◌⊎◌, inl, inr, ⊎_elim}
use mathlib.Core.Bool.{Bool, true, false}
use mathlib.Core.List.{List, [], ◌∷◌}
use Prim.Native.Nat.{ℕ, zero, suc, ◌+◌, ◌-◌, ◌*◌, ◌<◌, ◌≤◌}
use native.Mathlib.Omega.{arith}
use lib.Dec.{ltb, eqb}
use lib.ListN.{length}
use borrow.Author.Tests.{lt-ltb, le-ltb, eq-eqb, eqb-true, eqb-false}
use Rattle.lent.specs.Lent.{pick, at, pair_set_of}
use Rattle.lent.specs.Outcome.{Outcome, outcome}
use Rattle.lent.proofs.Laws.{test, by_lt, by_test}
use Rattle.refusal.specs.declared.Refusal.TheVariants.{Tables}
use Rattle.sh_map.specs.Map.{askable_of}
use Rattle.wire.specs.Words.{words_of, pairs_of}
use Rattle.wire.proofs.Laws.{length_words, length_pair_set}
use Rattle.writers.specs.List.{writers_of, Has}
use Rattle.writers.specs.Answer.{filled_of}
use Rattle.tables.specs.Key.{key_of, under}
use Rattle.tables.specs.Tables.{built_of, matches_of}
use Rattle.tables.proofs.KeyLaws.{under_key}
use Rattle.tables.proofs.Built.{length_built, built_again, matches_told, matches_holds}
use Rattle.xref.specs.Entries.{Entry}
use Rattle.xref.specs.Answer.{joined_from, joined_of, answered_of, list_of}
use Rattle.xref.specs.Replace.{Replaced, replaced, build_of, word_replaced, changed_of, replace_of}
use Rattle.xref.proofs.Words.{replaced_here, replaced_there}
use Rattle.xref.proofs.Entries.{entry_kept, kept_entry}
use Rattle.xref.proofs.Join.{joined_exact}
use Rattle.refusal.specs.declared.Refusal.{Refusal}

-- What a joined list has, where its first word stands at a.
module _ (c x : ℕ) where
  joined_only : (p : List ℕ) (a : ℕ) → Has x (joined_from c p a) → (a ≤ x) × (x < a + length p) × ((under (at p (x - a)) c ≡ true) ⊎ (under (at p (x - a)) 0x0F ≡ true))
  unfolding joined_from
  joined_only [] a = λ y. absurd y
  joined_only (w ∷ p) a =
      let Says : List ℕ → Type 0 = λ l. Has x l → (a ≤ x) × (x < a + suc (length p)) × ((under (at (w ∷ p) (x - a)) c ≡ true) ⊎ (under (at (w ∷ p) (x - a)) 0x0F ≡ true)) in
      let later : Says (joined_from c p (a + 1)) = λ y.
      let r = joined_only p (a + 1) y in
      let z : x - a ≡ suc (x - (a + 1)) = omega (arith, r.0) in
      (omega (arith, r.0), omega (arith, r.1), rw z r.2) in
      by_test Says (pick (under w c) true (under w 0x0F)) _ _
      (λ t. ⊎_elim (λ q. let z : x - a ≡ 0 = omega arith in (omega arith, omega arith, rw z (either (under w c) (under w 0x0F) t))) later)
      (λ t. later)
    where
      either : (u v : Bool) → pick u true v ≡ true → (u ≡ true) ⊎ (v ≡ true)
      either true v e = inl refl
      either false v e = inr e

  joined_every : (p : List ℕ) (a i : ℕ) → i < length p → x ≡ a + i → (under (at p i) c ≡ true) ⊎ (under (at p i) 0x0F ≡ true) → Has x (joined_from c p a)
  unfolding joined_from
  joined_every [] a i h e o = absurd (omega arith)
  joined_every (w ∷ p) a zero h e o =
      let t : pick (under w c) true (under w 0x0F) ≡ true = ⊎_elim (λ u. rw u) (λ u. by_test (λ (b : Bool). b ≡ true) (under w c) true (under w 0x0F) (λ _. refl) (λ _. u)) o in
      rw t (inl (omega arith))
  joined_every (w ∷ p) a (suc i) h e o =
      let r = joined_every p (a + 1) i (omega arith) (omega arith) o in
      by_test (Has x) (pick (under w c) true (under w 0x0F)) _ _ (λ _. inr r) (λ _. r)

-- the tables are those that a fresh build of the program gives
abbrev pub Fresh : List ℕ → List ℕ → Type 0
Fresh body t = (5120 ≤ length t) × (t ≡ built_of (words_of body 4096) t)

fresh_matches : (body t : List ℕ) → Fresh body t → matches_of (words_of body 4096) t ≡ true
fresh_matches body t f = sym (matches_holds (words_of body 4096) t f.0 f.1)

other_fails : (body t : List ℕ) → (Fresh body t → ⊥) → matches_of (words_of body 4096) t ≡ false
other_fails body t n = test (matches_of (words_of body 4096) t) (λ e. absurd (n (matches_told (words_of body 4096) t e))) (λ e. e)

-- what a build leaves is fresh
pub built_fresh : (body t : List ℕ) → 5120 ≤ length t → Fresh body (built_of (words_of body 4096) t)
built_fresh body t h =
    (omega (arith, length_built (words_of body 4096) t), sym (built_again (words_of body 4096) (words_of body 4096) t))

-- "Writers through $00F are kept once and joined in the answer": what is joined are the entries of the cell and those of $00F, and an
-- address is an entry of one cell at most
module _ (body t : List ℕ) (f : Fresh body t) (x : ℕ) where
  pub joined_entries : (c : ℕ) → c < 1024 → Has x (joined_of (words_of body 4096) c) → Entry t c x ⊎ Entry t 0x0F x
  unfolding joined_of
  joined_entries c i y =
      let p = words_of body 4096 in
      let n = length_words body 4096 in
      let r = joined_only c x p 0 y in
      let z : x - 0 ≡ x = omega arith in
      let l : x < 4096 = omega (arith, r.1) in
      ⊎_elim (λ u. inl (kept_entry p n t f.0 f.1 c i x l (rw z at u))) (λ u. inr (kept_entry p n t f.0 f.1 0x0F (omega arith) x l (rw z at u))) r.2

  pub entries_joined : (c : ℕ) → c < 1024 → Entry t c x ⊎ Entry t 0x0F x → Has x (joined_of (words_of body 4096) c)
  unfolding joined_of
  entries_joined c i o =
      let p = words_of body 4096 in
      let n = length_words body 4096 in
      ⊎_elim (λ y. let r = entry_kept p n t f.0 f.1 c i x y in joined_every c x p 0 x (omega (arith, r.0)) (omega arith) (inl r.1))
      (λ y. let r = entry_kept p n t f.0 f.1 0x0F (omega arith) x y in joined_every c x p 0 x (omega (arith, r.0)) (omega arith) (inr r.1)) o

  pub entry_once : (c d : ℕ) → c < 1024 → d < 1024 → Entry t c x → Entry t d x → c ≡ d
  entry_once c d i j y z =
      let p = words_of body 4096 in
      let n = length_words body 4096 in
      sym (under_key (at p x) c (entry_kept p n t f.0 f.1 c i x y).1) ∙ under_key (at p x) d (entry_kept p n t f.0 f.1 d j x z).1

module _ (body t : List ℕ) (c : ℕ) (room : List ℕ) (n : length body ≡ 8192) (h : askable_of c ≡ true) where
  -- "An answer equals demand 3's list": for every program and every cell, whatever the room
  pub answer_exact : Fresh body t → list_of body t c room ≡ filled_of (pairs_of (writers_of (words_of body 4096) c) (length (writers_of (words_of body 4096) c))) room
  unfolding list_of answered_of
  answer_exact f = rw (eq-eqb (length body) 8192 n, h, fresh_matches body t f, joined_exact (words_of body 4096) c h)

  -- "29 if the tables don't match the program they are given with"
  pub list_29 : (Fresh body t → ⊥) → list_of body t c room ≡ outcome (Err Tables) room
  unfolding list_of answered_of
  list_29 f = rw (eq-eqb (length body) 8192 n, h, other_fails body t f)

  pub list_29_only : (list_of body t c room).answer ≡ Err Tables → Fresh body t → ⊥
  unfolding filled_of
  list_29_only e f =
      let l = pairs_of (writers_of (words_of body 4096) c) (length (writers_of (words_of body 4096) c)) in
      let Says : Outcome (Result ℕ Refusal) → Type 0 = λ r. r.answer ≡ Err Tables → ⊥ in
      let r : Says (filled_of l room) = by_lt Says (length room) (length l) _ _ (λ _ q. let z : ◌≡◌ {A = ℕ} 0 1 = cc in absurd (omega arith)) (λ _ q. let z : ◌≡◌ {A = ℕ} 0 1 = cc in absurd (omega arith)) in
      r (sym (ap (λ (r : Outcome (Result ℕ Refusal)). r.answer) (answer_exact f)) ∙ e)

module _ (body t : List ℕ) (a w : ℕ) (n : length body ≡ 8192) (h : a < 4096) where
  pub replace_29 : (Fresh body t → ⊥) → replace_of body t a w ≡ replaced (Err Tables) body t
  unfolding replace_of changed_of
  replace_29 f = rw (eq-eqb (length body) 8192 n, lt-ltb a 4096 h, other_fails body t f)

  -- the word is written, and the tables are those of the program with it
  pub replace_done : Fresh body t → replace_of body t a w ≡ replaced (Ok tt) (pair_set_of body (a * 2) w) (built_of (words_of (pair_set_of body (a * 2) w) 4096) t)
  unfolding replace_of changed_of word_replaced
  replace_done f = rw (eq-eqb (length body) 8192 n, lt-ltb a 4096 h, fresh_matches body t f)

  pub replace_29_only : (replace_of body t a w).answer ≡ Err Tables → Fresh body t → ⊥
  replace_29_only e f =
      let q : ◌≡◌ {A = Result (Unit {0}) Refusal} (Ok tt) (Err Tables) = sym (ap (λ (r : Replaced). r.answer) (replace_done f)) ∙ e in
      let z : ◌≡◌ {A = ℕ} 0 1 = cc in
      absurd (omega arith)

  module _ (f : Fresh body t) where
    -- "Replacing one program word must give what a fresh build would"
    pub replaced_fresh : build_of (replace_of body t a w).program t ≡ outcome (Ok tt) (replace_of body t a w).tables
    unfolding build_of
    replaced_fresh =
        rw (replace_done f, length_pair_set body (a * 2) w, eq-eqb (length body) 8192 n, le-ltb (length t) 5120 f.0)

    -- so the next word can be replaced, and every cell asked
    pub replaced_matches : Fresh (replace_of body t a w).program (replace_of body t a w).tables
    replaced_matches = rw (replace_done f) (built_fresh (pair_set_of body (a * 2) w) t f.0)

    -- The entries then: of the address replaced they are those of its new word, and all others are as they were.
    module _ (k : w < 65536) (c x : ℕ) (i : c < 1024) where
      abbrev p : List ℕ
      p = words_of body 4096

      abbrev q : List ℕ
      q = words_of (pair_set_of body (a * 2) w) 4096

      abbrev Then : Type 0
      Then = Entry (replace_of body t a w).tables c x

      now_kept : Then → (x < 4096) × (under (at q x) c ≡ true)
      now_kept y =
          let g = built_fresh (pair_set_of body (a * 2) w) t f.0 in
          entry_kept q (length_words (pair_set_of body (a * 2) w) 4096) (built_of q t) g.0 g.1 c i x (rw (replace_done f) at y)

      kept_now : x < 4096 → under (at q x) c ≡ true → Then
      kept_now l u =
          let g = built_fresh (pair_set_of body (a * 2) w) t f.0 in
          rw (replace_done f) (kept_entry q (length_words (pair_set_of body (a * 2) w) 4096) (built_of q t) g.0 g.1 c i x l u)

      pub entry_here : x ≡ a → (Then → under w c ≡ true) × (under w c ≡ true → Then)
      entry_here e =
          let z : at q x ≡ w = ap (at q) e ∙ replaced_here body a w n h k in
          (λ y. ap (λ (v : ℕ). under v c) (sym z) ∙ (now_kept y).1, λ u. kept_now (omega arith) (ap (λ (v : ℕ). under v c) z ∙ u))

      pub entry_there : (x ≡ a → ⊥) → (Entry t c x → Then) × (Then → Entry t c x)
      entry_there e =
          let z = ap (λ (v : ℕ). under v c) (replaced_there body a w x e) in
          let m = length_words body 4096 in (
            λ y. let r = entry_kept p m t f.0 f.1 c i x y in kept_now r.0 (z ∙ r.1),
            λ y. let r = now_kept y in kept_entry p m t f.0 f.1 c i x r.0 (sym z ∙ r.1),
          )

      -- "no entry for other cells or other addresses may alter": of another address, or of a cell that neither word is kept under
      pub entries_stay : (x ≡ a → ⊥) ⊎ ((key_of (at p a) ≡ c → ⊥) × (key_of w ≡ c → ⊥)) → (Entry t c x → Then) × (Then → Entry t c x)
      entries_stay o =
          test (eqb x a)
          (λ y.
          let e = eqb-true x a y in
          ⊎_elim (λ v. absurd (v e))
          (λ v. (
            λ b. absurd (v.0 (under_key (at p a) c (ap (λ (j : ℕ). under (at p j) c) (sym e) ∙ (entry_kept p (length_words body 4096) t f.0 f.1 c i x b).1))),
            λ b. absurd (v.1 (under_key w c ((entry_here e).0 b))),
          ))
          o)
          (λ y. entry_there (eqb-false x a y))
