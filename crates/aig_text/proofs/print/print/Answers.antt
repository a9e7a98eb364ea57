use Rattle.std.proofs.Common.{◌∙◌, ◌+◌, ◌++◌, ap}
use Rattle.aig_graph.specs.Graphs.{graph_of}
use Rattle.aig_text.specs.GraphText.{lines_from, latch_line, output_line, gate_line}
use Rattle.aig_text.proofs.Prints.{whole_text}
use Rattle.aig_text.proofs.Wholes.{one_text, printed}
use Rattle.aig_text.proofs.print.print.Goals as goal

pub returns-clause-text : goal.returns-clause-text
returns-clause-text c =
    let g = c.args.graph.now in
    whole_text (graph_of g) _ _ _ _ _ _ _ c.new-out.ensures.items c.in_ok-print_header.ensures c.in_ok-print_inputs.ensures
    (c.in_ok-print_latches.ensures ∙ ap (λ x. c.print_inputs.new.out.items ++ lines_from latch_line (g.inputs + 1) x) c.deref.ensures.value)
    (c.in_ok-print_outputs.ensures ∙ ap (λ x. c.print_latches.new.out.items ++ lines_from (λ k. output_line) 0 x) c.deref-2.ensures.value)
    (c.in_ok-print_gates.ensures ∙ (ap (λ x. c.print_outputs.new.out.items ++ lines_from gate_line (g.inputs + c.len-latches.result + 1) x) c.deref-3.ensures.value
    ∙ ap (λ n. c.print_outputs.new.out.items ++ lines_from gate_line (g.inputs + n + 1) g.ands.items) (c.len-latches.ensures ∙ g.latches.ok.0)))
    c.new.ensures

pub returns-clause-related : goal.returns-clause-related
returns-clause-related c = printed (graph_of c.args.graph.now) _ c.requires (returns-clause-text c)

pub returns-clause-only : goal.returns-clause-only
returns-clause-only c = λ other is. one_text _ other (graph_of c.args.graph.now) is (returns-clause-related c)
