-- `picture::draw`: what is drawn is the picture.
use Rattle.std.proofs.lemmas.Grind.{common_steps}
use mathlib.Core.Path.{◌≡◌}
use native.Mathlib.Omega.{arith}
use lib.ListN.{length}
use Prim.Native.Nat.{◌/◌}
use Rattle.picture.proofs.Laws.{drawn}
use Rattle.picture.proofs.draw.Goals as goal

pub returns : goal.returns
returns c =
    let a = c.args in
    let e : length c.loop-k.place-items ≡ length a.wiring.now / 3 = grind (arith, common_steps) in
    drawn a.lit a.memory.now a.wiring.now a.room.now c.loop-k.place-items (omega arith) e (λ j h. c.loop-k.invariant j (omega arith))
