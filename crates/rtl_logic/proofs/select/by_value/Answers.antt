use Rattle.std.proofs.Common.{◌<◌, length, sym, subst, arith}
use Rattle.std.specs.List.{flat_map}
use Rattle.std.specs.List.Sorted.{IsPermutation}
use Rattle.std.proofs.lemmas.List.{take_more}
use Rattle.std.proofs.lemmas.List.Sorted.{IsPermutation-push_more}
use Rattle.rtl_logic.specs.Choosing.{choices_in}
use Rattle.rtl_logic.proofs.Choices.{no_choice}
use Rattle.rtl_logic.proofs.select.by_value.Goals as goal

pub loop-choice-preserved : goal.loop-choice-preserved
loop-choice-preserved c =
    let h : c.loop-choice.choice-index < length c.args.choices.now = omega arith in
    record {
      same = subst (λ l. IsPermutation l (flat_map choices_in c.add_choice.new.groups.items)) (sym (take_more c.args.choices.now c.loop-choice.choice-index no_choice h))
          (IsPermutation-push_more _ _ _ _ c.loop-choice.invariant.same c.in_ok-place.ensures.same);
      most = omega (arith, c.in_ok-place.ensures.most, c.loop-choice.invariant.most);
      some = c.in_ok-place.ensures.some c.loop-choice.invariant.some;
    }
