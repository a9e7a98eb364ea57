use Rattle.std.proofs.Common.{◌≡◌, ◌∙◌, ap, subst, IfOk}
use Rattle.pieces.specs.View.{pure_of}
use Rattle.passes.specs.Lowering.Expressions.{emitted}
use Rattle.passes.specs.Lowering.Blocks.{given_tested}
use Rattle.block_draft.specs.Views.{ops_of, guards_of, made}
use Rattle.block_draft.proofs.draft.emit_test.Goals as goal

pub returns : goal.returns
returns c =
    subst (λ r. IfOk c.condition.result (λ x. made c.condition.new.self x ≡ r))
    (ap (given_tested) (c.in_ok-given.ensures ∙ ap (λ l. emitted c.args.outs.now (pure_of c.args.test.now) (ops_of c.args.ops.now) (guards_of l)) c.new-guards.ensures.items))
    c.condition.ensures
