-- `host::references::galhoveia_xref_replace`: the call, and what is told of it.
use Rattle.host.proofs.Tables.{replace_told}
use Rattle.host.proofs.references.galhoveia_xref_replace.Goals as goal

pub returns : goal.returns
returns c = search replace_told
