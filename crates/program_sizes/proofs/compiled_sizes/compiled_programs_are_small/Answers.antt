use Rattle.program_sizes.proofs.CompiledSizes.Whole.{compiled_small}
use Rattle.program_sizes.proofs.compiled_sizes.compiled_programs_are_small.Goals as goal

pub returns : goal.returns
returns c = compiled_small
