use Rattle.c_lexer.proofs.Typed.{digits_pass, no_constant, digit_count-fits}
use Rattle.c_lexer.proofs.constant.constant.Goals as goal

pub split_at-requires : goal.split_at-requires
split_at-requires c = digit_count-fits c.radix_of-radix.result c.digit_count.result c.without_mark-body.result.now c.digit_count.ensures

pub value_of-requires-clause-digits : goal.value_of-requires-clause-digits
value_of-requires-clause-digits c =
    digits_pass c.radix_of-radix.result c.digit_count.result c.without_mark-body.result.now c.split_at.result.0.now c.digit_count.ensures c.split_at.ensures.front

pub returns-in_err-value : goal.returns-in_err-value
returns-in_err-value c =
    rw c.from_residual.ensures
    (no_constant c.args.text.now c.without_mark-body.result.now c.split_at.result.0.now c.radix_of-radix.result c.digit_count.result
    c.radix_of-radix.ensures c.without_mark-body.ensures c.digit_count.ensures c.split_at.ensures.front c.in_err-value.ensures)
