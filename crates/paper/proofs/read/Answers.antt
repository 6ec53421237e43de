-- `paper::read`: the refusals in their order, then the words.
use Rattle.std.proofs.lemmas.Result.{err_from_is_err_and}
use Rattle.paper.proofs.Laws.{few_words, read_none, words_stored}
use Rattle.paper.proofs.read.Goals as goal

pub returns-in_err-take : goal.returns-in_err-take
returns-in_err-take c =
    let p = err_from_is_err_and c.from_residual.result c.from_residual.ensures.1 in
    let e = c.in_err-take.ensures in
    rw (p.1, p.2, e.1) (read_none _ _ e.0)

pub returns-then-room-lt-WORDS : goal.returns-then-room-lt-WORDS
returns-then-room-lt-WORDS c = few_words _ _ c.in_ok-take.ensures.0 c.if-room-lt-WORDS.true

pub returns : goal.returns
returns c =
    let e = c.in_ok-take.ensures in
    words_stored _ _ e.0 e.1 c.if-room-lt-WORDS.false c.copy.ensures
