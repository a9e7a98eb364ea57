use Rattle.std.proofs.Common.{◌∙◌, sym}
use Rattle.std.proofs.lemmas.Result.{IfOk-weaker}
use Rattle.rtl_logic.specs.Making.{circuit}
use Rattle.rtl_logic.proofs.Folds.{numbers_fit, two_numbers, two_right_zero, two_left_zero, two_wire}
use Rattle.rtl_logic.proofs.logic.Logic.two.Goals as goal

pub returns-in-Some-Some : goal.returns-in-Some-Some
returns-in-Some-Some c = λ sound between fit.
    let e = sym c.constant_of.ensures ∙ c.in-Some-Some.is-0 in
    let f = sym c.constant_of-2.ensures ∙ c.in-Some-Some.is-1 in
    let numbers = numbers_fit (circuit c.args.self.now) c.args.pair c.args.bits c.args.left c.args.right sound between fit c.in-Some-Some.left c.in-Some-Some.right e f in
    two_numbers (circuit c.args.self.now) c.args.pair c.args.bits c.args.left c.args.right sound between fit c.in-Some-Some.left c.in-Some-Some.right c.pair_of_constants.result e f (c.pair_of_constants.ensures between numbers)

pub returns-then-keeps_left : goal.returns-then-keeps_left
returns-then-keeps_left c = λ sound between fit.
    two_right_zero (circuit c.args.self.now) c.args.pair c.args.bits c.args.left c.args.right sound between fit (sym c.is_number.ensures ∙ c.if-is_number.true) (sym c.keeps_left.ensures ∙ c.if-keeps_left.true)

pub returns-then-keeps_right : goal.returns-then-keeps_right
returns-then-keeps_right c = λ sound between fit.
    two_left_zero (circuit c.args.self.now) c.args.pair c.args.bits c.args.left c.args.right sound between fit (sym c.is_number-2.ensures ∙ c.if-is_number-2.true) (sym c.keeps_right.ensures ∙ c.if-keeps_right.true)

pub returns : goal.returns
returns c = λ sound between fit.
    IfOk-weaker c.wire.result _ _ (λ a adds. two_wire (circuit c.args.self.now) c.args.pair c.args.bits c.args.left c.args.right sound between fit (circuit c.wire.new.self) a adds) c.wire.ensures
