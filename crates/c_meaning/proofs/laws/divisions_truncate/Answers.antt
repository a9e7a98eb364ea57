use Rattle.c_meaning.proofs.Conversions.{divisions_truncate}
use Rattle.c_meaning.proofs.laws.divisions_truncate.Goals as goal

pub returns : goal.returns
returns c = divisions_truncate
