-- `host::references::galhoveia_xref_build`: the call, and what is told of it.
use Rattle.host.proofs.Tables.{build_told}
use Rattle.host.proofs.references.galhoveia_xref_build.Goals as goal

pub returns : goal.returns
returns c = search build_told
