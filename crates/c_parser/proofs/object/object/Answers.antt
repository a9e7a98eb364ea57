use Rattle.std.proofs.Common.{ap, refl, map}
use Rattle.std.specs.Option.{option_map}
use Rattle.c_tree.specs.View.{tree_of, init_of}
use Rattle.c_parser.proofs.CursorLemmas.Exits.{through}
use Rattle.c_parser.proofs.CursorLemmas.Readings.{step_found, step_never, loose_found, loose_stuck, loose_never}
use Rattle.c_parser.proofs.Initialisers.{initialiser_apart}
use Rattle.c_parser.proofs.Declarations.{object_with, object_step, nameless_never}
use Rattle.c_parser.proofs.object.object.Goals as goal

pub returns-in_default-clause-absent : goal.returns-in_default-clause-absent
returns-in_default-clause-absent c = nameless_never _ _ c.in_default.ensures.1

pub returns-in_err-lengths-clause-absent : goal.returns-in_err-lengths-clause-absent
returns-in_err-lengths-clause-absent c =
    through _ c.in_err-lengths.field-0.0 _ _ c.from_residual-in_err-lengths.ensures.1 (λ y e. e) c.in_err-lengths.ensures.absent
    (λ n. step_never _ _ (object_step _ _ _ _ _ c.in-Some.ensures) (loose_never _ (λ x y here end s e. initialiser_apart y here end s e) n))

pub returns-in_err-init-clause-absent : goal.returns-in_err-init-clause-absent
returns-in_err-init-clause-absent c =
    through _ c.in_err-init.field-0.0 _ _ c.from_residual-in_err-init.ensures.1 (λ y e. e) c.in_err-init.ensures.absent
    (λ n. step_never _ _ (object_step _ _ _ _ _ c.in-Some.ensures) (loose_stuck _ _ _ (λ x y here end s e. initialiser_apart y here end s e) c.in_ok-lengths.ensures.found n))

pub returns-clause-found : goal.returns-clause-found
returns-clause-found c =
    step_found _ _ _ _ _ refl (object_step _ _ _ _ _ c.in-Some.ensures)
    (loose_found _ _ _ _ _ _ (λ x y here end s e. initialiser_apart y here end s e)
    (ap (λ y. object_with c.args.kind.kind c.args.kind.constant y c.in-Some.at (map (option_map tree_of) c.in_ok-lengths.lengths.items) (option_map init_of c.in_ok-init.init)) c.in_ok-name.ensures)
    c.in_ok-lengths.ensures.found c.in_ok-init.ensures.found)
