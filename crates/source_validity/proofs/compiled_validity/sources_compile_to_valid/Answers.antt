use Rattle.source_validity.proofs.CompiledValidity.Sources.{sources_valid}
use Rattle.source_validity.proofs.compiled_validity.sources_compile_to_valid.Goals as goal

pub returns : goal.returns
returns c = sources_valid
