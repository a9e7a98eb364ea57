use Rattle.hls_cli.proofs.OneLine.{tried}
use Rattle.hls_cli.proofs.run.stop_for_memory.Goals as goal

pub returns-clause-line : goal.returns-clause-line
returns-clause-line g c = tried _ _ _ _ c.put.ensures.all c.put.ensures.prefix
