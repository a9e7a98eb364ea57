use Rattle.std.proofs.Common.{◌∙◌, ap, bit_and}
use Rattle.std.proofs.lemmas.Nat.{and_mask}
use Rattle.verilog_cycle.proofs.word.low_bits.Goals as goal

pub returns : goal.returns
returns c = ap (bit_and c.args.value) c.ones.ensures ∙ and_mask c.args.value c.args.bits
