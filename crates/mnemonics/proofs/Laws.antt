-- The row, the kinds and the numbers that a word shows, by the tests that find them: computed over all rows and all words.
use mathlib.Core.Path.{◌≡◌, ◌∙◌, ap, refl, sym}
use mathlib.Core.Bool.{Bool, true}
use mathlib.Core.List.{List, map}
use Rattle.std.specs.Prelude.{min}
use Rattle.std.proofs.lemmas.List.{get_or_default}
use Prim.Native.Nat.{ℕ, ◌+◌, ◌/◌, ◌%◌, ◌<◌, ◌≤◌}
use native.Mathlib.Omega.{arith}
use lib.Dec.{ltb, eqb}
use lib.ListN.{length, get_or, get_or-eq_default, get_or-map, length-map}
use borrow.Author.Tests.{lt-ltb, le-ltb, eq-eqb, ne_eqb, ltb-true, ltb-false, eqb-true}
use Rattle.lent.specs.Lent.{pick, both}
use Rattle.lent.proofs.Laws.{test, both_true, by_lt, by_choice}
use Rattle.word.proofs.Every.{every, every_at}
use Rattle.word.specs.Codes.{operation_of, immediate_of, condition_of}
use Rattle.word.specs.Word.{decode_of, accumulator_of, transfer_of, control_of}
use Rattle.mnemonics.specs.declared.Shown.{Shown}
use Rattle.mnemonics.specs.Rows.{StandsAt}
use Rattle.mnemonics.specs.Mnemonics.{Row, bound, data_row, table, row_of, shown_of, Fits}

few_rows : length table ≡ 44
unfolding table
few_rows = refl

last : get_or table 43 data_row ≡ data_row
unfolding table
last = refl

-- past the last row stands what is in the last one
last_row : (n : ℕ) → row_of (min n 43) ≡ row_of n
unfolding row_of
last_row n =
    test (ltb n 44)
    (λ e. ap (λ (k : ℕ). get_or table k data_row) (let h = ltb-true n 44 e in omega arith))
    (λ e.
    let h : length table ≤ n = omega (arith, few_rows, ltb-false n 44 e) in
    let z : min n 43 ≡ 43 = omega (arith, ltb-false n 44 e) in
    rw z (last ∙ sym (get_or-eq_default table data_row h)))

-- What stands in the program's table stands in this one.
pub row_part : {A C : Type 0} (f : A → C) (g : Row → C) (l : List A) (n : ℕ) {x : A} → StandsAt l n x → map f l ≡ map g table → f x ≡ g (row_of n)
unfolding row_of StandsAt
row_part f g l n {x} h m =
    let i : ℕ = min n 43 in
    let k : i < length table = omega (arith, few_rows) in
    ap f h
    ∙ (sym (get_or-map f l i x)
    ∙ (ap (λ y. get_or y i (f x)) m
    ∙ (get_or_default (map g table) i (f x) (g data_row) (omega (arith, length-map table g)) ∙ (get_or-map g table i data_row ∙ ap g (last_row n)))))

-- What a word shows, by tests on the word.

unfoldable pub row_by : ℕ → ℕ
row_by w =
    pick (ltb w 0x4000) (w / 1024)
    (pick (ltb w 0xC800) (w / 2048 + 8)
    (pick (ltb w 0xCB00) 43
    (pick (ltb w 0xCB80) 33
    (pick (ltb w 0xCD00) 43
    (pick (ltb w 0xCD80) 34
    (pick (ltb w 0xD000) 43
    (pick (ltb w 0xD100) 35
    (pick (eqb w 0xD400) 36
    (pick (eqb w 0xD800) 37
    (pick (eqb w 0xDC00) 38
    (pick (ltb w 0xE000) 43
    (pick (ltb w 0xF000) 39
    (pick (eqb w 0xF000) 40
    (pick (eqb w 0xF7FF) 41
    (pick (eqb w 0xFFFF) 42
    43)))))))))))))))

unfoldable pub first_in : ℕ → ℕ → ℕ
first_in w n =
    pick (ltb n 16) (w % 1024)
    (pick (ltb n 24) (w % 128)
    (pick (ltb n 33) (w % 2048)
    (pick (ltb n 35) (w % 128)
    (pick (eqb n 35) (w / 16 % 16)
    (pick (eqb n 39) (w % 4096)
    0)))))

unfoldable pub second_in : ℕ → ℕ → ℕ
second_in w n = pick (ltb n 16) 0 (pick (ltb n 24) (w / 128 % 16) (pick (eqb n 35) (w % 16) 0))

-- the tests find what is shown
abbrev tested : ℕ → Shown → Bool
tested w s = both (eqb (row_by w) s.row) (both (eqb (first_in w s.row) s.first) (eqb (second_in w s.row) s.second))

all_tested : every (λ w. tested w (shown_of (decode_of w))) 16 0 ≡ true
unfolding every shown_of decode_of accumulator_of transfer_of control_of operation_of immediate_of condition_of row_by first_in second_in
all_tested = refl

-- and what they find fits its row
row_small : (w : ℕ) → row_by w < 44
unfolding row_by
row_small w =
    let P : ℕ → Type 0 = λ n. n < 44 in
    let z : P 43 = omega arith in
    by_lt P w 0x4000 _ _ (λ h. omega arith)
    (λ _. by_lt P w 0xC800 _ _ (λ h. omega arith)
    (λ _. by_choice P (ltb w 0xCB00) 43 _ z
    (by_choice P (ltb w 0xCB80) 33 _ (omega arith)
    (by_choice P (ltb w 0xCD00) 43 _ z
    (by_choice P (ltb w 0xCD80) 34 _ (omega arith)
    (by_choice P (ltb w 0xD000) 43 _ z
    (by_choice P (ltb w 0xD100) 35 _ (omega arith)
    (by_choice P (eqb w 0xD400) 36 _ (omega arith)
    (by_choice P (eqb w 0xD800) 37 _ (omega arith)
    (by_choice P (eqb w 0xDC00) 38 _ (omega arith)
    (by_choice P (ltb w 0xE000) 43 _ z
    (by_choice P (ltb w 0xF000) 39 _ (omega arith)
    (by_choice P (eqb w 0xF000) 40 _ (omega arith)
    (by_choice P (eqb w 0xF7FF) 41 _ (omega arith) (by_choice P (eqb w 0xFFFF) 42 43 (omega arith) z)))))))))))))))

first_below : ℕ → ℕ
first_below n = pick (ltb n 16) 1024 (pick (ltb n 24) 128 (pick (ltb n 33) 2048 (pick (ltb n 35) 128 (pick (eqb n 35) 16 (pick (eqb n 39) 4096 1)))))

second_below : ℕ → ℕ
second_below n = pick (ltb n 16) 1 (pick (ltb n 24) 16 (pick (eqb n 35) 16 1))

all_bounds : every (λ n. both (eqb (first_below n) (bound (row_of n).first)) (eqb (second_below n) (bound (row_of n).second))) 6 0 ≡ true
unfolding every first_below second_below row_of table
all_bounds = refl

bounds : (n : ℕ) → n < 44 → (first_below n ≡ bound (row_of n).first) × (second_below n ≡ bound (row_of n).second)
bounds n h =
    let z : 0 + n ≡ n = omega arith in
    let x = eqb (first_below n) (bound (row_of n).first) in
    let y = eqb (second_below n) (bound (row_of n).second) in
    let t = both_true x y (rw z at (every_at (λ n. both (eqb (first_below n) (bound (row_of n).first)) (eqb (second_below n) (bound (row_of n).second))) 6 0 n all_bounds (omega arith))) in
    (eqb-true (first_below n) (bound (row_of n).first) t.0, eqb-true (second_below n) (bound (row_of n).second) t.1)

first_small : (w n : ℕ) → first_in w n < first_below n
unfolding first_in first_below
first_small w n =
    test (ltb n 16) (λ e. rw e (omega arith))
    (λ a. rw a
    (test (ltb n 24) (λ e. rw e (omega arith))
    (λ b. rw b
    (test (ltb n 33) (λ e. rw e (omega arith))
    (λ c. rw c
    (test (ltb n 35) (λ e. rw e (omega arith))
    (λ d. rw d
    (test (eqb n 35) (λ e. rw e (omega arith))
    (λ f. rw f (test (eqb n 39) (λ e. rw e (omega arith)) (λ e. rw e (omega arith))))))))))))

second_small : (w n : ℕ) → second_in w n < second_below n
unfolding second_in second_below
second_small w n =
    test (ltb n 16) (λ e. rw e (omega arith))
    (λ a. rw a
    (test (ltb n 24) (λ e. rw e (omega arith))
    (λ b. rw b (test (eqb n 35) (λ e. rw e (omega arith)) (λ e. rw e (omega arith))))))

module _ (w : ℕ) (h : w < 65536) where
  found : (row_by w ≡ (shown_of (decode_of w)).row) × ((first_in w (shown_of (decode_of w)).row ≡ (shown_of (decode_of w)).first) × (second_in w (shown_of (decode_of w)).row ≡ (shown_of (decode_of w)).second))
  found =
      let s = shown_of (decode_of w) in
      let x = eqb (row_by w) s.row in
      let y = eqb (first_in w s.row) s.first in
      let z = eqb (second_in w s.row) s.second in
      let o : 0 + w ≡ w = omega arith in
      let u = both_true x (both y z) (rw o at (every_at (λ w. tested w (shown_of (decode_of w))) 16 0 w all_tested h)) in
      let v = both_true y z u.1 in
      (eqb-true (row_by w) s.row u.0, (eqb-true (first_in w s.row) s.first v.0, eqb-true (second_in w s.row) s.second v.1))

  pub row_by_lem : {r : ℕ} → r ≡ row_by w → r ≡ (shown_of (decode_of w)).row
  row_by_lem e = e ∙ found.0

  pub first_in_lem : {n r : ℕ} → n ≡ (shown_of (decode_of w)).row → r ≡ first_in w n → r ≡ (shown_of (decode_of w)).first
  first_in_lem f e = e ∙ rw f found.1.0

  pub second_in_lem : {n r : ℕ} → n ≡ (shown_of (decode_of w)).row → r ≡ second_in w n → r ≡ (shown_of (decode_of w)).second
  second_in_lem f e = e ∙ rw f found.1.1

  -- what a word shows fits its row
  pub word_fits : Fits (shown_of (decode_of w))
  word_fits =
      let s = shown_of (decode_of w) in
      let m : s.row < 44 = rw (← found.0) (row_small w) in
      let k = bounds s.row m in
      record {
        row = m;
        first = rw (← k.0, ← found.1.0) (first_small w s.row);
        second = rw (← k.1, ← found.1.1) (second_small w s.row);
      }

pub ruleset row_tests = (lt-ltb, le-ltb, eq-eqb, ne_eqb, row_by_lem)

pub ruleset first_tests = (lt-ltb, le-ltb, eq-eqb, ne_eqb, first_in_lem)

pub ruleset second_tests = (lt-ltb, le-ltb, eq-eqb, ne_eqb, second_in_lem)

pub shown_is : (s : Shown) {n f g : ℕ} → n ≡ s.row → f ≡ s.first → g ≡ s.second → record { row = n; first = f; second = g } ≡ s
shown_is s p q r = rw (p, q, r)
