use Rattle.expanded_programs.proofs.ElaboratedPrograms.Tokens.{numbers_fit}
use Rattle.expanded_programs.proofs.elaborated_programs.laws.source_numbers_fit.Goals as goal

pub returns : goal.returns
returns c = numbers_fit
