use Rattle.cosim_levels.proofs.PinsLemmas.AddressWords.{wide}
use Rattle.cosim_levels.proofs.pins.drive.low_bits.Goals as goal

pub returns-else-bits-lt64 : goal.returns-else-bits-lt64
returns-else-bits-lt64 c = wide c.args.word c.args.bits c.ranges.word.fits c.if-bits-lt64.false
