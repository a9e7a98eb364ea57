use Rattle.module_commands.specs.Outcomes.{IsBlast, IsBlastRefusal}
use Rattle.module_commands.proofs.Settling.{settled_is}
use Rattle.module_commands.proofs.Refuted.{blast_refused}
use Rattle.module_commands.proofs.blast.blast.Goals as goal

pub returns-clause-outcome : goal.returns-clause-outcome
returns-clause-outcome c =
    let text = c.args.text.now in
    let work = c.graph_file.ensures in
    settled_is c.graph_file.result c.settled.result (IsBlast text) (IsBlastRefusal text) work.done work.refused (blast_refused text) c.settled.ensures
