use Rattle.std.proofs.Common.{◌∙◌, sym, ap, Some}
use Rattle.std.proofs.lemmas.Result.{IfOk-weaker}
use Rattle.rtl_logic.specs.Making.{circuit}
use Rattle.rtl_logic.proofs.Folds.{not_number, not_twice, not_wire}
use Rattle.rtl_logic.proofs.logic.Logic.not.Goals as goal

pub returns-in-Some : goal.returns-in-Some
returns-in-Some c = λ n sound between h.
    not_number (circuit c.args.self.now) n c.width-bits.result c.in-Some.value c.args.atom c.constant.result sound between h (sym c.constant_of.ensures ∙ c.in-Some.is) c.width-bits.ensures c.constant.ensures

pub returns-in-Some-Not : goal.returns-in-Some-Not
returns-in-Some-Not c = λ n sound between h.
    not_twice (circuit c.args.self.now) n c.args.atom c.in-Some-Not.inner sound h (sym c.net_of.ensures ∙ c.in-Some-Not.is ∙ ap (λ m. Some m) c.in-Some-Not.field-0-is)

pub returns : goal.returns
returns c = λ n sound between h. IfOk-weaker c.wire.result _ _ (λ a adds. not_wire (circuit c.args.self.now) (circuit c.wire.new.self) n c.width-bits.result c.args.atom a sound between h c.width-bits.ensures adds) c.wire.ensures
