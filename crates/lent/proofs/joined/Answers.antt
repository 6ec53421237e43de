use Rattle.std.proofs.Common.{refl, arith, length-take, length-drop, drop, ◌≡◌, ◌-◌}
use Rattle.lent.specs.Lent.{joined_of}
use Rattle.lent.proofs.Bits.{joined_on}
use Rattle.lent.proofs.joined.Goals as goal

pub loop-b-init : goal.loop-b-init
unfolding joined_of
loop-b-init c = refl

pub loop-b-preserved : goal.loop-b-preserved
loop-b-preserved c = joined_on c.args.bytes.now c.args.a _ _ _ c.loop-b-test.true c.loop-b.invariant

pub returns : goal.returns
returns c =
    let a = c.args in
    let e : a.e - a.a ≡ c.loop-b.b-index = omega (arith, length-take (a.e - a.a) (drop a.a a.bytes.now), length-drop a.a a.bytes.now) in
    rw e c.loop-b.invariant
