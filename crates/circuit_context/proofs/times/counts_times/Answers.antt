use Rattle.std.proofs.Common.{ap, arith}
use Rattle.std.specs.Prelude.{nat_lt}
use Rattle.circuit_context.proofs.times.counts_times.Goals as goal

pub returns : goal.returns
returns c = λ p e. ap (nat_lt 0) (c.greatest_time.ensures p e.program e.arrays e.kept (omega (arith, c.requires p e.arrays e.kept)))
