use Rattle.std.proofs.Common.{◌∙◌, sym, arith}
use Rattle.std.proofs.lemmas.Bool.{lt-ltb, le-leb}
use Rattle.c_lexer.proofs.Digits.{below_power}
use Rattle.c_lexer.proofs.constant.is_below_power.Goals as goal

pub returns-then-bits-ge64 : goal.returns-then-bits-ge64
returns-then-bits-ge64 c = le-leb 64 c.args.bits (omega arith) ∙ sym (lt-ltb _ _ (below_power c.args.value c.args.bits (omega arith) (omega arith)))
