use Rattle.std.proofs.Common.{subst, sym}
use Rattle.std.proofs.lemmas.Result.{IfOk-weaker}
use Rattle.rtl_logic.specs.Making.{circuit, Makes}
use Rattle.rtl_logic.proofs.Steps.{wide, ShiftedBy, moved_right}
use Rattle.rtl_logic.proofs.operations.shifted_right.Goals as goal

pub returns-then-signed : goal.returns-then-signed
returns-then-signed c = λ n sound between fits count.
    let d = circuit c.args.logic.now in
    let e = circuit c.shifted_signed.new.logic in
    IfOk-weaker c.shifted_signed.result _ _ (λ a made. subst (λ b. Makes d e c.args.bits a (ShiftedBy b c.args.bits c.args.value c.args.count)) (sym c.if-signed.true) made)
    (c.shifted_signed.ensures n sound between fits count)

pub returns-else-signed : goal.returns-else-signed
returns-else-signed c = λ n sound between fits count.
    let d = circuit c.args.logic.now in
    let e = circuit c.two.new.self in
    IfOk-weaker c.two.result _ _
    (λ a made. subst (λ b. Makes d e c.args.bits a (ShiftedBy b c.args.bits c.args.value c.args.count)) (sym c.if-signed.false) (moved_right d c.args.bits c.args.value c.args.count between.1 fits e a made))
    (c.two.ensures sound (wide c.args.bits between) (fits, (n, count)))
