-- `xref::calls::list`: the refusals in their order, then the answer.
use Rattle.std.proofs.lemmas.Result.{err_from_is_err_and}
use Rattle.xref.proofs.CallLaws.{list_asked, list_cell, list_length}
use mathlib.Core.Path.{sym, ◌∙◌}
use Rattle.xref.proofs.calls.list.Goals as goal

pub returns-in_err-sized : goal.returns-in_err-sized
returns-in_err-sized c =
    let p = err_from_is_err_and c.from_residual.result c.from_residual.ensures.1 in
    rw (p.1, p.2) (list_length _ _ _ _ c.in_err-sized.ensures)

pub returns-then-not-askable : goal.returns-then-not-askable
returns-then-not-askable c = let n = c.in_ok-sized.ensures in search list_cell

pub answered-requires : goal.answered-requires
answered-requires c = (c.in_ok-sized.ensures, sym c.askable.ensures ∙ c.if-not-askable.false)

pub returns : goal.returns
returns c = let n = c.in_ok-sized.ensures in search list_asked
