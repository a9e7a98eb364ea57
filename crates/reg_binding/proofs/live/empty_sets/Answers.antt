use Rattle.std.proofs.Common.{◌+◌, inl, inr, ap, ◌∙◌}
use Rattle.std.proofs.lemmas.List.{length_push}
use Rattle.reg_binding.specs.Sets.{has}
use Rattle.reg_binding.proofs.LiveVariables.Elements.{push_found}
use Rattle.reg_binding.proofs.live.empty_sets.Goals as goal

pub loop-number-preserved : goal.loop-number-preserved
loop-number-preserved c =
    let sets = c.loop-number.sets.items in
    let new = c.in_ok-new.field-0 in
    rw c.in_ok-push.ensures.items (record {
      count = length_push sets new ∙ ap (λ n. n + 1) c.loop-number.invariant.count;
      empty = λ i s at. elim (push_found sets new i s at) [
        | inl e ↦ (ap (λ v. v.variables) e ∙ c.in_ok-new.ensures.count, λ n l. ap (λ v. has v n) e ∙ c.in_ok-new.ensures.members n l)
        | inr old ↦ c.loop-number.invariant.empty i s old
      ];
    })
