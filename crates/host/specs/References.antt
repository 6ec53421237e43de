-- xref_build, xref_list and xref_replace, for C (02, P7): the program is a kind 1 body; its length and the room for addresses are told in bytes, that of the tables in numbers.
use Rattle.std.specs.Prelude.{ℕ, List, Result}
use Rattle.lent.specs.Outcome as lent
use Rattle.refusal.specs.Told.{Said}
use Rattle.answer.specs.Answer.{outcome_told}
use Rattle.writers.specs.Answer.{listed_told}
use Rattle.xref.specs.Answer.{list_of}
use Rattle.xref.specs.Replace.{Replaced, build_of, replace_of}
use Rattle.host.specs.Told.{Filled, room_told}
use Rattle.host.specs.Listings.{Stored, stored}
use Rattle.refusal.specs.declared.Refusal.{Refusal}

-- an answer, and the tables that it leaves
unfoldable pub tables_told : lent.Outcome (Result (Unit {0}) Refusal) → Stored
tables_told a = stored (outcome_told a.answer) a.room

unfoldable pub host_build_of : List ℕ → List ℕ → Stored
host_build_of body t = tables_told (build_of body t)

unfoldable pub host_xref_list_of : List ℕ → List ℕ → ℕ → List ℕ → ℕ → Filled
host_xref_list_of body t cell room count = room_told listed_told (list_of body t cell room) count

-- what is said, and what the lent program and the lent tables then hold
pub record Kept : Type 0 where
  pub told : Said
  pub program : List ℕ
  pub tables : List ℕ

abbrev pub kept : Said → List ℕ → List ℕ → Kept
kept s body t = record { told = s; program = body; tables = t }

unfoldable pub replaced_told : Replaced → Kept
replaced_told a = kept (outcome_told a.answer) a.program a.tables

unfoldable pub host_replace_of : List ℕ → List ℕ → ℕ → ℕ → Kept
host_replace_of body t a w = replaced_told (replace_of body t a w)
