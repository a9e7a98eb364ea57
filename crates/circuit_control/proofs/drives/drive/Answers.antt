use Rattle.std.proofs.Common.{subst, sym, arith}
use Rattle.circuit_control.specs.Drives.{DrivesOne}
use Rattle.circuit_control.proofs.Driving.{has_width, nothing_driven, one_driven}
use Rattle.rtl_logic.specs.Making.{circuit}
use Rattle.rtl_logic.specs.Choosing.{IsChoice}
use Rattle.datapath.specs.Circuits.{width}
use Rattle.circuit_control.proofs.drives.drive.Goals as goal

pub returns-in-Some : goal.returns-in-Some
returns-in-Some c = λ p names r can.
    let between = has_width p names (circuit c.args.logic.now) c.args.number r c.width-bits.result can.begun can.named_ c.width-bits.ensures (λ e. c.if-bits-eq0.false e) (omega (arith, c.if-bits-gt64.false)) in
    let made = subst (IsChoice (circuit c.args.logic.now) (circuit c.select.new.self) (width p r) c.args.choices.now) c.in-Some.is (c.in_ok-choice.ensures (width p r) can.begun.sound between can.fit) in
    subst (λ e. DrivesOne p names (circuit c.args.logic.now) e c.args.number r) (sym c.set.ensures)
    (one_driven p names (circuit c.args.logic.now) (circuit c.select.new.self) c.args.number r c.args.choices.now c.in-Some.choice can made)

pub returns-in_default : goal.returns-in_default
returns-in_default c = λ p names r can.
    let between = has_width p names (circuit c.args.logic.now) c.args.number r c.width-bits.result can.begun can.named_ c.width-bits.ensures (λ e. c.if-bits-eq0.false e) (omega (arith, c.if-bits-gt64.false)) in
    let made = subst (IsChoice (circuit c.args.logic.now) (circuit c.select.new.self) (width p r) c.args.choices.now) c.in_default.is (c.in_ok-choice.ensures (width p r) can.begun.sound between can.fit) in
    nothing_driven p names (circuit c.args.logic.now) (circuit c.select.new.self) c.args.number r c.args.choices.now can made
