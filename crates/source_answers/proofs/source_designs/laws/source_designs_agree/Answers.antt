use Rattle.source_answers.proofs.SourceDesigns.Whole.{designs_agree}
use Rattle.source_answers.proofs.source_designs.laws.source_designs_agree.Goals as goal

pub returns : goal.returns
returns c = designs_agree
