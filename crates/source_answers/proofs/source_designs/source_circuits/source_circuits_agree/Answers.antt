use Rattle.source_answers.proofs.SourceDesigns.SourceCircuits.Whole.{circuits_agree}
use Rattle.source_answers.proofs.source_designs.source_circuits.source_circuits_agree.Goals as goal

pub returns : goal.returns
returns c = circuits_agree
