use Rattle.clock_machine.proofs.LinesLemmas.Orderly.{orderly_at}
use Rattle.clock_machine.proofs.lines.laws.well_timed_is_orderly.Goals as goal

pub returns : goal.returns
returns c = λ cfg timed none_ well. orderly_at cfg.frame.memories.items cfg.nodes.items timed.nodes.items well.nodes none_
