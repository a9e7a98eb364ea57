use Rattle.std.proofs.Common.{ap, List, [], map}
use Rattle.pieces.specs.declared.resolved.program.CoreObject.{CoreObject}
use Rattle.pieces.specs.Resolved.CoreView.{core_object_of}
use Rattle.piece_making.specs.Stocks.{stock, state_of}
use Rattle.piece_making.proofs.Exits.{through}
use Rattle.piece_making.proofs.Parts.{made_behind, heavy_at_once}
use Rattle.c_expand.specs.Callees.{given_of}
use Rattle.c_expand.specs.Expansion.{parameters}
use Rattle.c_expand.proofs.Leading.{made_as, heavy_as}
use Rattle.c_expand.proofs.calls.homes.Goals as goal

pub returns-in_err-homes-clause-refused : goal.returns-in_err-homes-clause-refused
returns-in_err-homes-clause-refused c =
    through _ c.in_err-homes.field-0.0 _ _ c.from_residual.ensures.1 (λ y e. e) c.in_err-homes.ensures.refused
    (λ r h. heavy_at_once _ _ _ _ (heavy_as _ _ _ _ (ap (λ (os : List CoreObject). parameters (map core_object_of os) (map given_of c.args.given.items) [] (state_of (stock c.args.work.now))) c.as_slice-objects.ensures.value) h))

pub returns-clause-made : goal.returns-clause-made
returns-clause-made c =
    made_behind _ _ _ _ _ _ _ (made_as _ _ _ _ _ (ap (λ (os : List CoreObject). parameters (map core_object_of os) (map given_of c.args.given.items) [] (state_of (stock c.args.work.now))) c.as_slice-objects.ensures.value) c.in_ok-homes.ensures.made) c.in_ok-add_locals.ensures
