-- What is proved of the run of two cars (02, P5): "what a car's machine, memory, picture and stop reason come to depends on the program, the wiring and that car's own start, stop address and entries alone".
use Rattle.std.specs.Prelude.{◌≡◌, List, ℕ, ◌/◌, length, take, Ok}
use Rattle.lent.specs.Outcome.{outcome}
use Rattle.sh_run.specs.declared.Stop.{Stop}
use Rattle.sh_two.specs.Two.{entries_of, own_of}
use Rattle.call_run.specs.Run.{reason_of, run_call_of}
use Rattle.picture.specs.Picture.{lit_of, shown_of, picture_of}
use Rattle.call_two.specs.RunTwo.{Lent}

-- WHAT COMES OF A CAR, where the call is done: what the calls run and picture give for it
pub record Comes (p wiring script : List ℕ) (k stop : ℕ) (before : Lent) (why : Stop) (left : Lent) : Type 0 where
  pub state : left.current ≡ (run_call_of p before.current (own_of k (entries_of script)) stop).after
  pub reason : (run_call_of p before.current (own_of k (entries_of script)) stop).reason ≡ reason_of why left.current.machine
  pub room : outcome (Ok (length wiring / 3)) left.room ≡ picture_of left.current wiring before.room
  pub picture : take (length wiring / 3) left.room ≡ shown_of (lit_of left.current) left.current.memory wiring

-- INDEPENDENCE: two calls that are done, of one program and one wiring, in which this car starts alike and has the same stop address and entries, whatever the other car, its entries and the rooms: its machine, memory, picture and stop reason are alike
pub record Alike (wiring : List ℕ) (why why' : Stop) (left left' : Lent) : Type 0 where
  pub state : left.current ≡ left'.current
  pub reason : why ≡ why'
  pub picture : take (length wiring / 3) left.room ≡ take (length wiring / 3) left'.room
