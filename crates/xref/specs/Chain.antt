-- What the tables of a program are to the calls, and the chain of a cell: from its place on by the links.
use Rattle.std.specs.Prelude.{◌≡◌, List, ℕ, ◌*◌, ◌<◌, ◌≤◌, ltb, eqb, length}
use Rattle.lent.specs.Lent.{pick, pair_set_of}
use Rattle.wire.specs.Words.{words_of}
use Rattle.tables.specs.Tables.{cell_at, from_at, fresh_at, built_of}

-- a program of 8,192 bytes and its own tables
pub record Held (body t : List ℕ) : Type 0 where
  pub size : length body ≡ 8192
  pub room : 5120 ≤ length t
  pub fresh : t ≡ built_of (words_of body 4096) t

-- a place in a cell's chain that lies before an address and whose number leads to it or past it; there is one only (`leads_one`)
pub record Leads (p : List ℕ) (c a i : ℕ) : Type 0 where
  pub place : i < 5120
  pub cell : cell_at p i ≡ c
  pub from : from_at i ≤ a
  pub past : a ≤ fresh_at p i

-- a program and tables after its word at an address has been replaced, and the tables have followed
pub record Moved (body t : List ℕ) (a w : ℕ) (body' t' : List ℕ) : Type 0 where
  pub program : body' ≡ pair_set_of body (a * 2) w
  pub tables : t' ≡ built_of (words_of body' 4096) t

-- the chain of a cell and that of $00F, walked together
unfoldable pub least_of : ℕ → ℕ → ℕ
least_of a b = pick (ltb a b) a b

unfoldable pub after_of : ℕ → ℕ → ℕ → ℕ
after_of i a n = pick (eqb i a) n i
