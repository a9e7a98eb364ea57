use Rattle.program_sizes.proofs.CompiledSizes.Whole.{small_has_numbers}
use Rattle.program_sizes.proofs.compiled_sizes.small_programs_have_numbers.Goals as goal

pub returns : goal.returns
returns c = small_has_numbers
