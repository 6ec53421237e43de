-- `host::levels::tell`: by the answer.
use Rattle.std.proofs.Common.{◌≡◌, rules}
use Rattle.host.proofs.Laws.{level_found, level_refused}
use mir.Val.{to_z, of_z}
use mir.Syntax.{w32}
use Rattle.host.proofs.levels.tell.Goals as goal

pub returns-in-Ok : goal.returns-in-Ok
returns-in-Ok c =
    let stored : to_z w32 (of_z w32 c.in-Ok.v) ≡ c.in-Ok.v = search rules in
    level_found _ c.in-Ok.is stored c.done.ensures

pub returns-in-Err : goal.returns-in-Err
returns-in-Err c = level_refused _ c.in-Err.is c.refused.ensures
