use Rattle.std.proofs.Common.{ap, ◌∙◌}
use Rattle.pieces.specs.View.{pure_of}
use Rattle.piece_making.proofs.Exits.{through}
use Rattle.piece_making.proofs.Parts.{made_behind, heavy_at_once}
use Rattle.c_expand.proofs.Leading.{given, piece_made, piece_heavy}
use Rattle.c_expand.proofs.PieceTrees.{fork_tree}
use Rattle.c_expand.proofs.operators.fork.Goals as goal

pub returns-in_err-emit-clause-refused : goal.returns-in_err-emit-clause-refused
returns-in_err-emit-clause-refused c =
    through _ c.in_err-emit.field-0.0 _ _ c.from_residual-in_err-emit.ensures.1 (λ y e. e) c.in_err-emit.ensures.refused
    (λ r h. heavy_at_once _ _ _ _ (piece_heavy _ _ _ _ (fork_tree _ _ _ _ _ _ c.into_inner-test.ensures c.in_ok-end.ensures) h))

pub returns-clause-made : goal.returns-clause-made
returns-clause-made c =
    made_behind _ _ _ _ _ _ _ (piece_made _ _ _ _ _ (fork_tree _ _ _ _ _ _ c.into_inner-test.ensures c.in_ok-end.ensures) c.in_ok-emit.ensures.made) (given _ _ _ (ap pure_of c.in_ok-new.ensures ∙ c.variable.ensures))
