use Rattle.std.proofs.Common.{◌∙◌, map, ap, sym}
use Rattle.ir_layout.specs.Nodes.{end_of}
use Rattle.op_chain.specs.Reads.{end_operands}
use Rattle.op_chain.specs.Views.{counted}
use Rattle.op_chain.proofs.Shown.{cases_first}
use Rattle.op_chain.proofs.reads.count_end.Goals as goal

pub returns-in-Choose : goal.returns-in-Choose
returns-in-Choose c =
    c.count_cases.ensures
    ∙ (ap (λ l. counted c.args.counts.now (map (λ x. x.0) l)) c.as_slice.ensures.value
    ∙ (ap (counted c.args.counts.now) (sym (cases_first c.in-Choose.cases.items)) ∙ ap (λ e. counted c.args.counts.now (end_operands (end_of e))) (sym c.in-Choose.is)))
