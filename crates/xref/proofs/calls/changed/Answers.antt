-- `xref::calls::changed`: 29, or the change of both.
use Rattle.std.proofs.lemmas.Result.{err_from_is_err_and}
use Rattle.xref.specs.Replace.{changed_of}
use Rattle.xref.proofs.CallLaws.{matched_held, moved_done}
use Rattle.xref.proofs.calls.changed.Goals as goal

pub returns-in_err-matched : goal.returns-in_err-matched
unfolding changed_of
returns-in_err-matched c =
    let p = err_from_is_err_and c.from_residual.result c.from_residual.ensures.1 in
    let e = c.in_err-matched.ensures in
    rw (p.1, p.2, e.1, e.0)

pub change-requires : goal.change-requires
change-requires c = (matched_held c.args.program.now c.args.tables.now c.requires.0 c.in_ok-matched.ensures, c.requires.1)

pub returns : goal.returns
unfolding changed_of
returns c = rw c.in_ok-matched.ensures (moved_done _ _ _ _ c.change.ensures)
