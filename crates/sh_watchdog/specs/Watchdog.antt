-- The watchdog (003, 9; 01, "Events": Watchdog): a pulse a millisecond, in every mode, when bit 0 of the options is 1.
use Rattle.std.specs.Prelude.{◌-◌, ◌%◌, Bool, false, ltb, eqb}
use Rattle.lent.specs.Lent.{pick}
use Rattle.sh_state.specs.declared.machine.Machine.{Machine}
use Rattle.sh_state.specs.Record.{set_watchdog}

-- the pulse that counts down to 0: a watchdog reset
unfoldable pub expires_of : Machine → Bool
expires_of m = pick (eqb (m.options % 2) 1) (ltb m.watchdog 2) false

-- one pulse that does not expire
unfoldable pub counted_down_of : Machine → Machine
counted_down_of m =
    pick (eqb (m.options % 2) 1) (pick (ltb 1 m.watchdog) (set_watchdog m (m.watchdog - 1)) m) m
