use Rattle.piece_making.proofs.ObjectLaws.{local_made, local_heavy}
use Rattle.piece_making.proofs.Exits.{through}
use Rattle.pieces.specs.Resolved.CoreView.{core_object_of}
use Rattle.piece_making.proofs.objects.local_array.Goals as goal

pub returns-in_err-charge-clause-refused : goal.returns-in_err-charge-clause-refused
returns-in_err-charge-clause-refused c = through _ c.in_err-charge.field-0.0 _ _ c.from_residual-in_err-charge.ensures.1 (λ y e. e) c.in_err-charge.ensures.refused (λ r h. local_heavy (core_object_of c.args.object.now) _ _ _ c.in_ok-counted.ensures h)

pub returns-clause-made : goal.returns-clause-made
returns-clause-made c = local_made (core_object_of c.args.object.now) _ _ _ _ _ _ _ c.in_ok-counted.ensures c.in_ok-array.ensures c.in_ok-charge.ensures.made c.in_ok-added.ensures
