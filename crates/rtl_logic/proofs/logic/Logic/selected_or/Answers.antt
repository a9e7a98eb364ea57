use Rattle.std.proofs.Common.{subst}
use Rattle.std.proofs.lemmas.Result.{IfOk-weaker}
use Rattle.rtl_logic.specs.Making.{circuit}
use Rattle.rtl_logic.specs.Choosing.{IsChoice}
use Rattle.rtl_logic.proofs.Making.{appended, fits_later}
use Rattle.rtl_logic.proofs.Choices.{selected_else, selected_none}
use Rattle.rtl_logic.proofs.logic.Logic.selected_or.Goals as goal

pub returns-in-Some : goal.returns-in-Some
returns-in-Some c = λ n sound between fits h.
    let d = circuit c.args.self.now in
    let e = circuit c.select.new.self in
    let made = (subst (IsChoice d e n c.args.choices.now) c.in-Some.is (c.in_ok-choice.ensures n sound between fits)).1 in
    let later = fits_later d e (appended d e made.appends) n c.args.other h in
    IfOk-weaker c.pick.result _ _ (λ a m. selected_else d e (circuit c.pick.new.self) n c.args.choices.now c.in-Some.choice c.args.other a made m)
    (c.pick.ensures n made.sound between made.when.fits made.value.fits later)

pub returns-in-None : goal.returns-in-None
returns-in-None c = λ n sound between fits h.
    let d = circuit c.args.self.now in
    let e = circuit c.select.new.self in
    selected_none d e n c.args.choices.now c.args.other (subst (IsChoice d e n c.args.choices.now) c.in-None.is (c.in_ok-choice.ensures n sound between fits)) h
