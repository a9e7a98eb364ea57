use Rattle.std.proofs.Common.{◌∙◌, sym, arith}
use Rattle.std.specs.Prelude.{nat_lt}
use Rattle.std.specs.Char.{digit_value}
use Rattle.std.proofs.lemmas.List.Sums.{prefix_len_is}
use Rattle.c_lexer.proofs.constant.digit_count.Goals as goal

pub returns-else-is_digit_in : goal.returns-else-is_digit_in
returns-else-is_digit_in c =
    sym (prefix_len_is (λ b. nat_lt (digit_value b) c.args.radix) c.args.bytes.now c.loop-n.n 0 c.loop-n.invariant.0 c.loop-n.invariant.1
    (λ h. sym c.is_digit_in.ensures ∙ c.if-is_digit_in.false))

pub returns-after-loop-n : goal.returns-after-loop-n
returns-after-loop-n c =
    sym (prefix_len_is (λ b. nat_lt (digit_value b) c.args.radix) c.args.bytes.now c.loop-n.n 0 c.loop-n.invariant.0 c.loop-n.invariant.1
    (λ h. absurd (omega arith)))
