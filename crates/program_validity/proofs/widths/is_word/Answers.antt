use Rattle.std.proofs.Common.{◌∙◌, sym, arith}
use Rattle.std.proofs.lemmas.Bool.{lt-ltb, le-leb}
use Rattle.program_validity.proofs.Numbers.{below_power}
use Rattle.program_validity.proofs.widths.is_word.Goals as goal

pub returns-then-bits-ge64 : goal.returns-then-bits-ge64
returns-then-bits-ge64 c = le-leb 64 c.args.bits (omega arith) ∙ sym (lt-ltb _ _ (below_power c.args.word c.args.bits (omega arith) (omega arith)))
