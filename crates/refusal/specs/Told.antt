-- What a caller is told of an answer (01, "What comes back when a call is turned down"): the table's number and what goes with it, or 0
-- and 0 where the call is done. Each enum that a call answers has one definition, in its own crate, that says this of every case.
use Rattle.std.specs.Prelude.{ℕ}
use Rattle.refusal.specs.declared.Refusal.{Refusal}
use Rattle.refusal.specs.Refusal.{number_of, value_of}

pub record Said : Type 0 where
  pub number : ℕ
  pub value : ℕ

abbrev pub said : ℕ → ℕ → Said
said n v = record { number = n; value = v }

unfoldable pub done_told : Said
done_told = said 0 0

unfoldable pub refused_told : Refusal → Said
refused_told why = said (number_of why) (value_of why)

-- what is said, and a count: that of an answer that is done, else what stood there
pub record Counted : Type 0 where
  pub told : Said
  pub count : ℕ

abbrev pub counted : Said → ℕ → Counted
counted t n = record { told = t; count = n }
