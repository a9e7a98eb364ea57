use Rattle.source_validity.proofs.CompiledValidity.Whole.{laid_out_valid}
use Rattle.source_validity.proofs.compiled_validity.laid_out_expansions_are_valid.Goals as goal

pub returns : goal.returns
returns c = laid_out_valid
