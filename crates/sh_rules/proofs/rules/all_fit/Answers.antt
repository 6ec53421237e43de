-- `sh_rules::rules::all_fit`: what each span was told to keep makes the whole.
use Rattle.std.proofs.Common.{rules}
use Rattle.sh_rules.proofs.Spans.{unbroken_spans}
use Rattle.sh_rules.proofs.rules.all_fit.Goals as goal

pub returns-then-within-8 : goal.returns-then-within-8
returns-then-within-8 c t =
    unbroken_spans c.args.memory.now (search rules) (c.registers_fit.ensures t) (search rules) (search rules) (search rules) (search rules) (search rules) (search rules) (search rules) (search rules)
