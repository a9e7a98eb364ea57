use Rattle.std.proofs.Common.{ap, ◌∙◌}
use Rattle.piece_making.proofs.AssigningLaws.{steps_made, heavy_at_set, heavy_at_store}
use Rattle.piece_making.proofs.Exits.{through}
use Rattle.piece_making.specs.Assigning.{new_value, change_of, one}
use Rattle.piece_making.specs.Calls.{call_of}
use Rattle.pieces.specs.Trees as tree
use Rattle.pieces.specs.Trees.{PureTree}
use Rattle.hls_base.specs.declared.number.VarId.{VarId}
use Rattle.pieces.specs.View.{pure_of}
use Rattle.piece_making.proofs.assignments.bumped_behind.Goals as goal

pub returns-in_err-set-clause-refused : goal.returns-in_err-set-clause-refused
returns-in_err-set-clause-refused c = through _ c.in_err-set.field-0.0 _ _ c.from_residual-in_err-set.ensures.1 (λ y e. e) c.in_err-set.ensures.refused (λ r h. heavy_at_set (call_of c.args.frame.now) (change_of c.args.change) _ (λ (own : VarId). new_value (change_of c.args.change) (tree.variable own c.args.change.target.now.kind) one) _ _ _ _ _ c.in_ok-before.ensures c.in_ok-own.ensures h)

pub returns-in_err-store-clause-refused : goal.returns-in_err-store-clause-refused
returns-in_err-store-clause-refused c = through _ c.in_err-store.field-0.0 _ _ c.from_residual-in_err-store.ensures.1 (λ y e. e) c.in_err-store.ensures.refused (λ r h. heavy_at_store (call_of c.args.frame.now) (change_of c.args.change) _ (λ (own : VarId). new_value (change_of c.args.change) (tree.variable own c.args.change.target.now.kind) one) _ _ _ _ _ _ _ _ c.in_ok-before.ensures (c.in_ok-value.ensures ∙ (ap (λ (x : PureTree). new_value (change_of c.args.change) x (pure_of c.bit-one.result)) c.variable-read.ensures ∙ ap (λ (x : PureTree). new_value (change_of c.args.change) (tree.variable c.in_ok-own.own c.args.change.target.now.kind) x) c.bit-one.ensures)) c.in_ok-own.ensures c.in_ok-set.ensures.made h)

pub returns-clause-made : goal.returns-clause-made
returns-clause-made c = steps_made (call_of c.args.frame.now) (change_of c.args.change) _ (λ (own : VarId). new_value (change_of c.args.change) (tree.variable own c.args.change.target.now.kind) one) _ _ _ _ _ _ _ _ _ _ c.in_ok-before.ensures (c.in_ok-value.ensures ∙ (ap (λ (x : PureTree). new_value (change_of c.args.change) x (pure_of c.bit-one.result)) c.variable-read.ensures ∙ ap (λ (x : PureTree). new_value (change_of c.args.change) (tree.variable c.in_ok-own.own c.args.change.target.now.kind) x) c.bit-one.ensures)) c.variable.ensures c.in_ok-own.ensures c.in_ok-set.ensures.made c.in_ok-store.ensures.made
