-- What the calls fresh and step answer, with the state that they leave.
use Rattle.std.specs.Prelude.{Err, Ok, Result}
use Rattle.refusal.specs.declared.Refusal.{Refusal}
use Rattle.sh_state.specs.State.{State}
use Rattle.refusal.specs.Told.{Said, done_told, refused_told}

-- done or refused, and the state then
pub record Answered : Type 0 where
  pub outcome : Result (Unit {0}) Refusal
  pub after : State

abbrev pub answered : Result (Unit {0}) Refusal → State → Answered
answered o s = record { outcome = o; after = s }

-- a refusal leaves the state as it came
abbrev pub refused : Refusal → State → Answered
refused why s = answered (Err why) s

-- what is told of a fresh machine and of a step
unfoldable pub outcome_told : Result (Unit {0}) Refusal → Said
outcome_told (Ok tt) = done_told
outcome_told (Err why) = refused_told why
