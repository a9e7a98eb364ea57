use Rattle.program_sizes.proofs.FewObjects.Programs.{few_objects}
use Rattle.program_sizes.proofs.few_objects.sources_have_few_objects.Goals as goal

pub returns : goal.returns
returns c = few_objects
