-- A machine's record with the memory that is lent beside it.
use Rattle.std.specs.Prelude.{ℕ, List}
use Rattle.sh_state.specs.declared.machine.Machine.{Machine}

pub record State : Type 0 where
  pub machine : Machine
  pub memory : List ℕ

abbrev pub state : Machine → List ℕ → State
state m l = record { machine = m; memory = l }
