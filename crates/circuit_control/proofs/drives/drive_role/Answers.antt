use Rattle.std.proofs.Common.{sym, subst, ◌∙◌}
use Rattle.circuit_context.specs.declared.wanted.role.Target.TheVariants as t
use Rattle.circuit_context.specs.Wanted.Roles.{named}
use Rattle.rtl_logic.specs.Making.{circuit}
use Rattle.circuit_control.specs.Drives.{IsWord}
use Rattle.circuit_control.proofs.Driving.{can_drive, role_driven, word_stays, no_word}
use Rattle.std.proofs.lemmas.Result.{on_ok_weaker}
use Rattle.circuit_control.proofs.drives.drive_role.Goals as goal

pub returns-in-Word : goal.returns-in-Word
returns-in-Word c = λ p names pushes entries can groups.
    word_stays p names (circuit c.args.logic.now) c.args.number c.args.role can.begun (subst IsWord (sym c.in-Word.is) tt)

pub returns : goal.returns
returns c = λ p names pushes entries can groups.
    let other = no_word c.args.role c.in_default.not-Word in
    on_ok_weaker c.drive.result (role_driven p names (circuit c.args.logic.now) (circuit c.drive.new.logic) c.args.number c.args.role other)
    (c.drive.ensures p names (named c.args.role)
    (can_drive p names (circuit c.args.logic.now) c.args.number c.args.role pushes entries c.choices.result.now can other (c.choices.ensures ∙ groups (t.Register c.args.role))))
