-- `sh_run::stretch::halted`: cycles in a row are clocks of Timer0.
use native.Mathlib.Omega.{arith}
use Rattle.sh_run.proofs.Stretches.{halted_onward, onward_at}
use Rattle.sh_run.proofs.stretch.halted.Goals as goal

pub returns : goal.returns
returns c =
    let e = c.end-end.ensures in
    let s = c.requires in
    onward_at c.done.ensures (halted_onward s.0 s.1 s.5 (omega (arith, s.2, s.3)) c.cycles-i.ensures e.1 (omega (arith, e.2, s.2)))
