use Rattle.std.proofs.Common.{◌≡◌, ◌∙◌, ap, subst, IfOk}
use Rattle.pieces.specs.View.{pure_of}
use Rattle.passes.specs.Lowering.Expressions.{emitted}
use Rattle.passes.specs.Lowering.Blocks.{promoted_given}
use Rattle.block_draft.specs.Views.{ops_of, guards_of, made}
use Rattle.block_draft.proofs.draft.emit_promoted.Goals as goal

pub returns : goal.returns
returns c =
    subst (λ r. IfOk c.balanced.result (λ x. made c.balanced.new.self x ≡ r))
    (ap (promoted_given c.args.kind) (c.in_ok-given.ensures ∙ ap (λ l. emitted c.args.outs.now (pure_of c.args.test.now) (ops_of c.args.ops.now) (guards_of l)) c.new-guards.ensures.items))
    c.balanced.ensures
