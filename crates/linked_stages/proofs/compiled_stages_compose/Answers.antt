use Rattle.linked_stages.proofs.LinkedStages as stages
use Rattle.linked_stages.proofs.compiled_stages_compose.Goals as goal

pub returns : goal.returns
returns c = stages.compiled_stages_compose
