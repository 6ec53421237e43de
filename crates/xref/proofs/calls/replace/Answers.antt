-- `xref::calls::replace`: the refusals in their order, then the change.
use Rattle.std.proofs.lemmas.Result.{err_from_is_err_and}
use Rattle.xref.proofs.CallLaws.{replace_length, replace_past, replace_there}
use Rattle.xref.proofs.calls.replace.Goals as goal

pub returns-in_err-sized : goal.returns-in_err-sized
returns-in_err-sized c =
    let p = err_from_is_err_and c.from_residual.result c.from_residual.ensures.1 in
    rw (p.1, p.2) (replace_length _ _ _ _ c.in_err-sized.ensures)

pub returns-then-address-lt4096 : goal.returns-then-address-lt4096
returns-then-address-lt4096 c = let n = c.in_ok-sized.ensures in search replace_there

pub returns : goal.returns
returns c = let n = c.in_ok-sized.ensures in search replace_past
