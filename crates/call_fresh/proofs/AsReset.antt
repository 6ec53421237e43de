-- A fresh machine is what the pin reset makes of a machine whose cells and pins are 0 (01, "Reset").
use Prim.Native.Nat.{ℕ}
use mathlib.Core.Path.{◌≡◌, refl}
use mathlib.Core.List.{List}
use lib.ListN.{length, replicate}
use Rattle.sh_state.specs.Record.{fresh_of, set_pin_a, set_pin_b, set_pin_c, set_pin_d}
use Rattle.sh_state.specs.State.{state}
use Rattle.sh_reset.specs.declared.reset.Column.TheVariants.{Pin}
use Rattle.sh_reset.specs.Reset.{pins_of, reset_record_of, reset_of}
use Rattle.call_fresh.specs.Fresh.{fresh_memory_of}

pub fresh_is_reset : (o : ℕ) (l : List ℕ) →
    state (fresh_of o) (fresh_memory_of o l) ≡ reset_of Pin (state (fresh_of o) (replicate (length l) 0))
unfolding fresh_memory_of reset_of reset_record_of pins_of set_pin_a set_pin_b set_pin_c set_pin_d fresh_of
fresh_is_reset o l = refl
