use Rattle.std.proofs.Common.{rules, arith, ap, subst, ◌≡◌, length, map, Some}
use Rattle.std.specs.Prelude.{slice_get}
use Rattle.std.specs.Vec.Iter.{into_iter_items, into_iter_steps}
use Rattle.pieces.specs.Resolved.CoreView.{core_object_of}
use Rattle.piece_making.proofs.Exits.{through}
use Rattle.c_expand.proofs.Homes.{given_turn, given_heavy, given_end}
use Rattle.c_expand.proofs.calls.parameters.Goals as goal

pub returns-in_err-home-clause-refused : goal.returns-in_err-home-clause-refused
returns-in_err-home-clause-refused c =
    let step = subst (λ r. into_iter_steps c.loop-one.one-iterator r c.next.new.self) c.in-Some.is c.next.ensures.steps in
    let at : slice_get (map core_object_of c.args.objects.now) (length c.loop-one.homes.items) ≡ Some (core_object_of c.in_ok-object.object.now) = search rules in
    through _ c.in_err-home.field-0.0 _ _ c.from_residual-in_err-home.ensures.1 (λ y e. e) c.in_err-home.ensures.refused
    (λ r h. given_heavy (map core_object_of c.args.objects.now) _ c.in-Some.one _ _ _ _ _ r _ step.0 at c.loop-one.invariant.leads h)

pub loop-one-preserved : goal.loop-one-preserved
loop-one-preserved c =
    let step = subst (λ r. into_iter_steps c.loop-one.one-iterator r c.next.new.self) c.in-Some.is c.next.ensures.steps in
    let at : slice_get (map core_object_of c.args.objects.now) (length c.loop-one.homes.items) ≡ Some (core_object_of c.in_ok-object.object.now) = search rules in
    record {
      leads = given_turn (map core_object_of c.args.objects.now) _ c.in-Some.one _ _ _ _ _ _ _ _ _ step.0 at c.in_ok-home.ensures.made c.in_ok-push.ensures.items c.loop-one.invariant.leads;
      left = let e = c.loop-one.invariant.left in let f = ap length step.0 in omega (arith, step.1);
    }

pub returns-clause-made : goal.returns-clause-made
returns-clause-made c =
    let step = subst (λ r. into_iter_steps c.loop-one.one-iterator r c.next.new.self) c.in-None.is c.next.ensures.steps in
    given_end (map core_object_of c.args.objects.now) (into_iter_items c.loop-one.one-iterator) _ _ _ _ (omega (arith, step.0, c.loop-one.invariant.left)) c.loop-one.invariant.leads
