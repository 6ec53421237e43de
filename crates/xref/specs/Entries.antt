-- The entries of tables (02, P7): "an entry is one address kept under a cell or under $00F, wherever it lies in the tables".
use Rattle.std.specs.Prelude.{List, [], ◌∷◌, ℕ, zero, suc, ◌+◌, ltb}
use Rattle.lent.specs.Lent.{pick, at}
use Rattle.writers.specs.List.{Has}
use Rattle.tables.specs.Key.{none}

-- the addresses from one on, by the links; no program's tables have a chain of more than 4,096, and in others the walk ends there
unfoldable pub chain_from : ℕ → List ℕ → ℕ → List ℕ
chain_from zero t a = []
chain_from (suc n) t a = pick (ltb a none) (a ∷ chain_from n t (at t (1024 + a))) []

unfoldable pub entries_of : List ℕ → ℕ → List ℕ
entries_of t c = chain_from 4096 t (at t c)

-- tables t keep address a under cell c
abbrev pub Entry : List ℕ → ℕ → ℕ → Type 0
Entry t c a = Has a (entries_of t c)
