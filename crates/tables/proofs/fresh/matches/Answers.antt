-- `tables::fresh::matches`: too few numbers, else the pass.
use Rattle.tables.proofs.Built.{matches_short}
use Rattle.tables.proofs.fresh.matches.Goals as goal

pub returns-then-tables-lt-NUMBERS : goal.returns-then-tables-lt-NUMBERS
returns-then-tables-lt-NUMBERS c = search matches_short
