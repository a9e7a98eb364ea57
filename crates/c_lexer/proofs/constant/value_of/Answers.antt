use Rattle.std.proofs.Common.{◌≡◌, ◌∙◌, ap, arith, take}
use Rattle.std.specs.Str.Parse.{digits_value}
use Rattle.std.proofs.lemmas.List.{take_all}
use Rattle.c_lexer.proofs.Digits.{value_on, value_too_large}
use Rattle.c_lexer.proofs.constant.value_of.Goals as goal

pub returns-in_err-value : goal.returns-in_err-value
returns-in_err-value c =
    rw c.from_residual.ensures
    (value_too_large c.args.radix c.loop-byte.byte-index c.loop-byte.value c.args.digits.now (omega arith) c.loop-byte-test.true c.loop-byte.invariant.0 c.in_err-value.ensures)

pub loop-byte-preserved : goal.loop-byte-preserved
loop-byte-preserved c =
    let e = value_on c.args.radix c.loop-byte.byte-index c.loop-byte.value c.args.digits.now c.loop-byte-test.true c.loop-byte.invariant.0 in
    (c.in_ok-value.ensures.1 ∙ e, omega (arith, c.in_ok-value.ensures.0, c.in_ok-value.ensures.1))

pub returns : goal.returns
returns c =
    let e : take c.loop-byte.byte-index c.args.digits.now ≡ c.args.digits.now = take_all c.loop-byte.byte-index c.args.digits.now (omega arith) in
    let same = c.loop-byte.invariant.0 ∙ ap (digits_value c.args.radix) e in
    (omega (arith, c.loop-byte.invariant.1, same), same)
