-- `sh_run::single::by_cycle`: stuck before the event, or one event on.
use Rattle.std.proofs.Common.{arith, refl}
use Rattle.sh_run.proofs.Singles.{cycle_on, cycle_stuck, held, passing}
use Rattle.sh_run.proofs.single.by_cycle.Goals as goal

pub returns-in-None : goal.returns-in-None
returns-in-None c =
    let s = c.requires in
    held (cycle_stuck _ _ _ _ _ s.0 s.1 _ c.in-None.ensures refl) (omega (arith, s.0))

pub returns-in-Some : goal.returns-in-Some
returns-in-Some c =
    let s = c.requires in
    passing (cycle_on _ _ _ _ _ s.0 s.1 _ c.in-Some.ensures refl _ c.at.ensures) (omega arith) (omega (arith, s.0))
