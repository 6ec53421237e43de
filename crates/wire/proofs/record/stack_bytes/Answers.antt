-- `wire::record::stack_bytes`: sixteen bytes pasted over sixteen.
use Rattle.wire.proofs.Laws.{length_pairs, pasted_whole}
use mathlib.Core.Path.{◌∙◌}
use Rattle.wire.proofs.record.stack_bytes.Goals as goal

pub returns : goal.returns
returns c = c.put_words.ensures ∙ pasted_whole _ _ (length_pairs _ 8)
