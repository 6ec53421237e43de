-- `host::two::galhoveia_run_two`: the same tests in the same order.
use Rattle.host.proofs.Cars.{two_done, two_length, two_short, whole_records}
use Rattle.host.proofs.two.galhoveia_run_two.Goals as goal

pub returns-then-program-ne-PROGRAM : goal.returns-then-program-ne-PROGRAM
returns-then-program-ne-PROGRAM c = search two_length

pub done-requires : goal.done-requires
done-requires c = whole_records c.args.bytes.now c.args.bytes1.now c.both.ensures c.if-both.true

pub returns-then-both : goal.returns-then-both
returns-then-both c = two_done _ _ _ _ _ _ _ _ _ _ _ _ _ _ c.if-program-ne-PROGRAM.false _ c.both.ensures c.if-both.true c.done.ensures

pub returns : goal.returns
returns c = two_short _ _ _ _ _ _ _ _ _ _ _ _ _ _ c.if-program-ne-PROGRAM.false _ c.both.ensures c.if-both.false c.short.ensures
