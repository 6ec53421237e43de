-- `sh_rules::rules::registers_fit`: where all so far fit, each register before i does.
use Rattle.std.proofs.Common.{◌≡◌, true}
use Rattle.sh_rules.specs.Spans.{FitBelow}
use Rattle.sh_rules.proofs.rules.registers_fit.Given as goal

abbrev pub invariant-loop-i : goal.invariant-loop-i
invariant-loop-i l = l.fit ≡ true → FitBelow l.memory l.i
