use Rattle.std.proofs.Common.{◌++◌, ◌∙◌, sym, ap, codes, append_assoc}
use Rattle.c_tree.specs.RowText as rows
use Rattle.c_tree.proofs.Indentation.{indentation_more}
use Rattle.c_tree.proofs.print.text.push_indentation.Goals as goal

pub loop-step-preserved : goal.loop-step-preserved
loop-step-preserved c =
    let old = c.args.out.now.items in
    c.in_ok-extend_from_slice.ensures.items ∙ ap (λ xs. xs ++ codes "    ") c.loop-step.invariant
    ∙ append_assoc old (rows.indentation c.loop-step.step) (codes "    ") ∙ ap (λ xs. old ++ xs) (sym (indentation_more c.loop-step.step))
