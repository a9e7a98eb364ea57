use Rattle.std.proofs.Common.{sym, subst, arith}
use Rattle.std.specs.List.{All, flat_map}
use Rattle.std.specs.List.Sorted.{IsPermutation}
use Rattle.std.proofs.lemmas.Grind.{common_steps}
use Rattle.rtl_logic.specs.Making.{circuit}
use Rattle.rtl_logic.specs.Choosing.{IsSome, choices_in}
use Rattle.rtl_logic.proofs.Choices.{group_step, groups_end, none_grouped}
use Rattle.rtl_logic.proofs.logic.Logic.wanted.Goals as goal

pub loop-group-preserved : goal.loop-group-preserved
loop-group-preserved c = record {
  stand = λ n sound fits.
      let some = subst (All IsSome) (sym c.deref-group-items.ensures.value) c.in_ok-groups.ensures.some in
      group_step (circuit c.args.self.now) (circuit c.loop-group.self) (circuit c.any.new.self) n c.deref-group-items.result.now c.loop-group.group-index c.group-item.result c.deref.result.now c.in_ok-when.when
      c.loop-group.level.items c.push.new.self.items (omega arith) c.group-item.is c.deref.ensures.value c.in_ok-push.ensures.items some fits (c.loop-group.invariant.stand n sound fits) c.in_ok-when.ensures;
  count = grind (arith, common_steps);
}

pub returns-clause-same : goal.returns-clause-same
returns-clause-same c = λ n sound fits.
    groups_end (circuit c.args.self.now) (circuit c.loop-group.self) n c.args.choices.now c.loop-group.level.items c.deref-group-items.result.now c.loop-group.group-index (omega arith)
    (subst (λ l. IsPermutation c.args.choices.now (flat_map choices_in l)) (sym c.deref-group-items.ensures.value) c.in_ok-groups.ensures.same) fits (λ h. c.loop-group.invariant.stand n sound h)

pub returns-clause-some : goal.returns-clause-some
returns-clause-some c = λ none.
    none_grouped c.args.choices.now c.deref-group-items.result.now
    (subst (λ l. IsPermutation c.args.choices.now (flat_map choices_in l)) (sym c.deref-group-items.ensures.value) c.in_ok-groups.ensures.same) (omega arith)
