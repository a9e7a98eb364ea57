use Rattle.module_commands.specs.Outcomes.{texts_of, IsLink, IsLinkRefusal}
use Rattle.module_commands.proofs.Settling.{settled_is}
use Rattle.module_commands.proofs.Refuted.{link_refused}
use Rattle.module_commands.proofs.link.link.Goals as goal

pub returns-clause-outcome : goal.returns-clause-outcome
returns-clause-outcome c =
    let texts = texts_of c.args.texts.now in
    let depth = c.args.depth in
    let work = c.chain_file.ensures in
    settled_is c.chain_file.result c.settled.result (IsLink texts depth) (IsLinkRefusal texts) work.done work.refused (link_refused texts depth) c.settled.ensures
