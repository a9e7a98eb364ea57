use Rattle.std.proofs.Common.{◌∙◌, ap, sym, Option}
use Rattle.std.specs.Prelude.{unwrap_or}
use Rattle.std.specs.Option.{option_copied}
use Rattle.ir_core.specs.declared.body.Operand.{Operand}
use Rattle.if_convert.proofs.Setting.{looked_up}
use Rattle.if_convert.proofs.outs.held_or.Goals as goal

pub returns-in-Some : goal.returns-in-Some
returns-in-Some c =
    sym (looked_up c.args.sets.now.entries c.args.variable c.args.before
    ∙ ap (λ (o : Option Operand). unwrap_or o c.args.before) (sym c.get.ensures.value ∙ ap option_copied c.in-Some.is))

pub returns-in-None : goal.returns-in-None
returns-in-None c =
    sym (looked_up c.args.sets.now.entries c.args.variable c.args.before
    ∙ ap (λ (o : Option Operand). unwrap_or o c.args.before) (sym c.get.ensures.value ∙ ap option_copied c.in-None.is))
