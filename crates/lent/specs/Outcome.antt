-- What a call answers, with what it leaves in the room that was lent.
use Rattle.std.specs.Prelude.{ℕ, List}

pub record Outcome (A : Type 0) : Type 0 where
  pub answer : A
  pub room : List ℕ

abbrev pub outcome : {A : Type 0} → A → List ℕ → Outcome A
outcome a l = record { answer = a; room = l }
