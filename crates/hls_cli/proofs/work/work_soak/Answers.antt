use Rattle.std.proofs.Common.{refl}
use Rattle.hls_cli.specs.Comparisons.{tells}
use Rattle.hls_cli.proofs.work.work_soak.Goals as goal

pub returns-clause-answer : goal.returns-clause-answer
returns-clause-answer c = tells c.in_ok-summary.summary c.in_ok-summary.ensures refl c.in_ok-soak_line.ensures
