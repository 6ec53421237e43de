-- `xref::calls::build`: the refusals in their order, then the tables.
use Rattle.std.proofs.lemmas.Result.{err_from_is_err_and}
use Rattle.xref.proofs.CallLaws.{build_done, build_length, build_room}
use Rattle.xref.proofs.calls.build.Goals as goal

pub returns-in_err-sized : goal.returns-in_err-sized
returns-in_err-sized c =
    let p = err_from_is_err_and c.from_residual.result c.from_residual.ensures.1 in
    rw (p.1, p.2) (build_length _ _ c.in_err-sized.ensures)

pub returns-then-tables-lt-NUMBERS : goal.returns-then-tables-lt-NUMBERS
returns-then-tables-lt-NUMBERS c = let n = c.in_ok-sized.ensures in search build_room

pub returns : goal.returns
returns c = let n = c.in_ok-sized.ensures in search build_done
