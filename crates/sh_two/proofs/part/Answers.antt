-- `sh_two::part`: the car's own entries of the part, gathered and run.
use mathlib.Core.Path.{ap, sym}
use native.Mathlib.Omega.{arith}
use Rattle.sh_two.proofs.Runs.{few_events}
use lib.Seq.{length-take-le}
use Rattle.sh_two.proofs.Onward.{parted}
use Prim.Native.Nat.{ℕ, ◌+◌, ◌≤◌}
use Rattle.sh_two.proofs.part.Goals as goal

pub slice_bounds-run-end : goal.slice_bounds-run-end
slice_bounds-run-end c = sym (length-take-le _ _ (omega arith))

pub read-requires : goal.read-requires
read-requires c =
    let f : c.run-e.result.events ≤ c.gather-n.result = few_events _ _ _ _ _ c.run-e.ensures in
    (omega arith, omega arith, omega (arith, f))

pub returns : goal.returns
returns c = parted _ _ _ _ _ _ _ c.end-end.ensures.0 c.end-end.ensures.1 _ c.gather-n.ensures.1 _ c.run-e.ensures _ (ap (λ (n : ℕ). c.args.first + n) c.read.ensures.0)
