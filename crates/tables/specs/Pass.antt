-- What one pass over a program keeps beside it, so that each word costs little: a slot for each cell, behind 128 that stand for none.
use Rattle.std.specs.Prelude.{ℕ, ◌+◌, ◌-◌, ◌*◌, ◌/◌, ◌%◌, ◌<◌, ◌≤◌, ◌≡◌, List, ltb, length}
use Rattle.lent.specs.Lent.{pick, at}
use Rattle.writers.specs.Bits.{named_of, may_of}
use Rattle.tables.specs.Key.{none, keeps_of}
use Rattle.tables.specs.Tables.{first_of}

-- where the slots of a word's upper nine bits begin: they tell the bank, and whether the word writes what can differ
unfoldable pub base_of : ℕ → ℕ
base_of i = pick (may_of (i * 128)) (named_of (i * 128) + 128) 0

unfoldable pub slot_of : ℕ → ℕ
slot_of w = base_of (w / 128) + w % 128

-- where an address is noted that has a slot: there, if its cell is one that addresses are kept under, else behind all slots
unfoldable pub place_of : ℕ → ℕ
place_of x = pick (ltb x 128) 1152 (pick (keeps_of (x - 128)) x 1152)

-- what a slot holds where the words from a on have been passed
unfoldable pub head_of : List ℕ → ℕ → ℕ → ℕ
head_of p x a = pick (ltb x 128) none (first_of p (x - 128) a)

-- numbers that follow a rule by their place
abbrev pub Ruled : (ℕ → ℕ) → ℕ → List ℕ → Type 0
Ruled f n l = (length l ≡ n) × ((i : ℕ) → i < n → at l i ≡ f i)

-- the cells' numbers are what their slots hold
abbrev pub SameHeads : List ℕ → List ℕ → Type 0
SameHeads h t = (i : ℕ) → i < 1024 → at t i ≡ at h (i + 128)

-- numbers t' that are those of t, but for the cells' numbers
pub record Headed (h t t' : List ℕ) : Type 0 where
  pub size : length t' ≡ length t
  pub heads : SameHeads h t'
  pub others : (i : ℕ) → 1024 ≤ i → at t' i ≡ at t i

-- slots t' that are those of t, but that from f up to e each holds its own number
pub record Noted (f e : ℕ) (t t' : List ℕ) : Type 0 where
  pub size : length t' ≡ length t
  pub inside : (i : ℕ) → f ≤ i → i < e → at t' i ≡ i
  pub below : (i : ℕ) → i < f → at t' i ≡ at t i
  pub above : (i : ℕ) → e ≤ i → at t' i ≡ at t i
