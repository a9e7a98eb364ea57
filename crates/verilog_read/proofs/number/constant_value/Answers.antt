use Rattle.std.proofs.Common.{◌≡◌, ◌∙◌, ap, arith, take, subst, ◌<◌, ◌^◌}
use Rattle.std.proofs.lemmas.List.{take_all}
use Rattle.rtl_core.specs.ModuleTokens.{value_behind}
use Rattle.verilog_syntax.proofs.Values.{value_more}
use Rattle.verilog_read.proofs.Values.{value_too_large}
use Rattle.verilog_read.proofs.number.constant_value.Goals as goal

pub returns-in_err-value : goal.returns-in_err-value
returns-in_err-value c =
    rw c.from_residual.ensures (value_too_large c.args.digits.now c.loop-digit.digit-index c.loop-digit.value c.loop-digit-test.true c.loop-digit.invariant.0 c.in_err-value.ensures)

pub loop-digit-preserved : goal.loop-digit-preserved
loop-digit-preserved c =
    let e = value_more 16 c.args.digits.now c.loop-digit.digit-index c.loop-digit-test.true in
    (omega (arith, e, c.loop-digit.invariant.0, c.in_ok-value.ensures.0, c.in_ok-value.ensures.1), omega (arith, c.in_ok-value.ensures.0, c.in_ok-value.ensures.1))

pub returns : goal.returns
returns c =
    let e : take c.loop-digit.digit-index c.args.digits.now ≡ c.args.digits.now = take_all c.loop-digit.digit-index c.args.digits.now (omega arith) in
    let same = c.loop-digit.invariant.0 ∙ ap (value_behind 16 0) e in
    (subst (λ x. x < 2 ^ 128) same c.loop-digit.invariant.1, same)
