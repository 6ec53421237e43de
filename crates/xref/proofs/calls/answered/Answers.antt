-- `xref::calls::answered`: 29, or the answer.
use Rattle.std.proofs.lemmas.Result.{err_from_is_err_and}
use Rattle.xref.specs.Answer.{answered_of}
use Rattle.xref.proofs.CallLaws.{matched_held}
use Rattle.xref.proofs.calls.answered.Goals as goal

pub returns-in_err-matched : goal.returns-in_err-matched
unfolding answered_of
returns-in_err-matched c =
    let p = err_from_is_err_and c.from_residual.result c.from_residual.ensures.1 in
    let e = c.in_err-matched.ensures in
    rw (p.1, p.2, e.1, e.0)

pub answer-requires : goal.answer-requires
answer-requires c = (matched_held c.args.program.now c.args.tables.now c.requires.0 c.in_ok-matched.ensures, c.requires.1)

pub returns : goal.returns
unfolding answered_of
returns c = rw c.in_ok-matched.ensures c.answer.ensures
