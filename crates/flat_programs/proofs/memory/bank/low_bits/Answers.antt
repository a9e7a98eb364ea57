use Rattle.std.proofs.Common.{ap, ◌∙◌, ◌-◌, arith}
use Rattle.std.specs.Prelude.{bit_and}
use Rattle.std.proofs.lemmas.Nat.{and_mask, one_shl}
use Rattle.flat_programs.proofs.memory.bank.low_bits.Goals as goal

pub returns : goal.returns
returns c = ap (λ p. bit_and c.args.word (p - 1)) (one_shl c.args.bits 64 (omega arith)) ∙ and_mask c.args.word c.args.bits
