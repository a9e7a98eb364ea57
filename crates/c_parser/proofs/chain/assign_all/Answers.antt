use Rattle.std.proofs.Common.{◌∙◌, sym, ap}
use Rattle.c_tree.specs.View.{tree_of}
use Rattle.c_parser.specs.Chains.{all_assigned}
use Rattle.c_parser.proofs.Chains.{assigned_last}
use Rattle.c_parser.proofs.chain.assign_all.Goals as goal

pub loop-last-preserved : goal.loop-last-preserved
loop-last-preserved c =
    let left = c.pop.new.self.items in
    let before = tree_of c.loop-last.whole in
    ap (all_assigned left) c.in_ok-whole.ensures ∙ sym (assigned_last left c.in-Some.last before) ∙ ap (λ chain. all_assigned chain before) (sym c.in-Some.ensures.items) ∙ c.loop-last.invariant
