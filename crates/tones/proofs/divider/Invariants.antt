-- `tones::divider`: no N below n has the value.
use Rattle.tones.specs.Tones.{divider_of}
use Prim.Native.Nat.{◌<◌}
use mathlib.Core.Path.{◌≡◌}
use Rattle.tones.proofs.divider.Given as goal

abbrev pub invariant-loop-n : goal.invariant-loop-n
invariant-loop-n l = divider_of l.v < l.n → divider_of l.v ≡ 0
