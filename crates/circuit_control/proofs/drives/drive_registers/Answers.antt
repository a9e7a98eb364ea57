use Rattle.std.proofs.Common.{◌++◌, ◌+◌, ◌∙◌, sym, ap, subst, arith}
use Rattle.std.specs.Prelude.{is_some, option_copied}
use Rattle.std.proofs.lemmas.Bool.{false≢true}
use Rattle.rtl_logic.specs.Making.{circuit}
use Rattle.circuit_context.specs.Bank.Banks.{names_of}
use Rattle.circuit_control.proofs.Driving.{PartlyDriven, none_driven, one_more, all_driven, can_drive_role, names_stand}
use Rattle.circuit_control.proofs.drives.drive_registers.Goals.{in-Some+in_ok-drive_role, in_default}
use Rattle.circuit_control.proofs.drives.drive_registers.Goals as goal

pub loop-number-init : goal.loop-number-init
loop-number-init c = λ p names pushes entries can groups. none_driven p names c.args.bank.now.roles.keys (circuit c.args.logic.now) can.begun

pub loop-number-preserved : goal.loop-number-preserved
loop-number-preserved c = λ p names pushes entries can groups.
    let roles = c.args.bank.now.roles.keys in
    let partly = c.loop-number.invariant p names pushes entries can groups in
    elim c.match-get_index.branch [
      | in-Some+in_ok-drive_role w ↦
          let at = sym c.get_index.ensures.key ∙ ap option_copied w.in-Some.is in
          let step = w.in_ok-drive_role.ensures p names pushes entries
          (can_drive_role p names roles (circuit c.args.logic.now) (circuit c.loop-number.logic) c.loop-number.number w.in-Some.role.now pushes entries can partly at) groups in
          subst (λ l. PartlyDriven p names roles (c.loop-number.number + 1) (circuit c.args.logic.now) (circuit l)) (sym w.logic-is)
          (one_more p names roles c.loop-number.number (circuit c.args.logic.now) (circuit c.loop-number.logic) (circuit w.drive_role.new.logic) w.in-Some.role.now at partly step)
      | in_default w ↦ absurd (false≢true (ap is_some (sym w.in_default.is) ∙ c.get_index.ensures.found.1 (omega (arith, c.loop-number-test.true, c.len-number-end.ensures.len))))
    ]

pub returns : goal.returns
returns c = λ p more pushes entries begun pushed groups wanted idle.
    let roles = c.args.bank.now.roles.keys in
    let names = names_of c.args.bank.now ++ more in
    all_driven p names roles c.loop-number.number (circuit c.args.logic.now) (circuit c.loop-number.logic)
    (omega (arith, c.loop-number-test.false, c.loop-number.auto.number-end, c.len-number-end.ensures.len))
    (c.loop-number.invariant p names pushes entries
    (record { begun = begun; named_ = names_stand roles more; pushes_ = pushed; wanted = wanted; idle_ = idle }) groups)
