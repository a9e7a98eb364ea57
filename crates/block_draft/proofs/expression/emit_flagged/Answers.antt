use Rattle.std.proofs.Common.{◌∙◌, ap}
use Rattle.passes.specs.Lowering.Expressions.{with_value, under_guard}
use Rattle.block_draft.specs.Views.{guards_of, flagged_as}
use Rattle.block_draft.proofs.expression.emit_flagged.Goals as goal

pub returns : goal.returns
returns c =
    ap (with_value (guards_of c.guard_bit.new.guards.items) c.args.kind) c.in_ok-value.ensures
    ∙ ap (under_guard c.args.kind (flagged_as c.args.form c.args.args.items c.args.array c.args.at)) c.in_ok-guard.ensures
