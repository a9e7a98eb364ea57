use Rattle.std.proofs.Common.{◌≤◌, length, refl, subst}
use Rattle.rtl_core.specs.declared.design.Design.{Design}
use Rattle.rtl_core.specs.Netlist.{Netlist, netlist_of}
use Rattle.rtl_core.specs.ModuleText.{IsModuleText}
use Rattle.verilog_syntax.specs.TextSyntax.{limit}
use Rattle.aig_graph.specs.declared.aig.Aig.{Aig}
use Rattle.aig_graph.specs.Graphs.{graph_of}
use Rattle.aig_blast.specs.Weight.{IsBlastFault, IsSmall}
use Rattle.module_commands.specs.Outcomes.{IsBlast, IsReadAndSmall}
use Rattle.module_commands.proofs.Refuted.{not_small}
use Rattle.module_commands.proofs.Settling.{passed_on}
use Rattle.module_commands.proofs.blast.graph_file.Goals as goal

pub returns-in_err-design-clause-complete : goal.returns-in_err-design-clause-complete
returns-in_err-design-clause-complete c =
    let text = c.args.text.now in
    passed_on Design c.from_residual.result c.in_err-design.field-0.0 (λ r. length text ≤ limit → (d : Netlist) → IsModuleText text d → ⊥) (λ r. IsReadAndSmall text → ⊥) c.from_residual.ensures.1 (λ y e. e)
    (λ r none read. none read.1.within read.0 read.1.is) c.in_err-design.ensures.no_text

pub returns-in_err-graph-clause-complete : goal.returns-in_err-graph-clause-complete
returns-in_err-graph-clause-complete c =
    let text = c.args.text.now in
    let d = netlist_of c.in_ok-design.design in
    passed_on Aig c.from_residual-in_err-graph.result c.in_err-graph.field-0.0 (IsBlastFault d) (λ r. IsReadAndSmall text → ⊥) c.from_residual-in_err-graph.ensures.1 (λ y e. e)
    (λ r fault read. not_small d r fault (subst IsSmall (c.in_ok-design.ensures.only read.0 read.1.is) read.2)) c.in_err-graph.ensures.refused

pub returns-clause-done : goal.returns-clause-done
returns-clause-done c =
    let design = c.in_ok-design.ensures in
    let d = netlist_of c.in_ok-design.design in
    IsBlast.done d (record { within = design.within; is = design.text }) c.in_ok-graph.ensures.small (record {
      graph = graph_of c.in_ok-graph.graph;
      is = c.in_ok-graph.ensures.graph;
      text = c.in_ok-written.written;
      text_is = c.in_ok-written.ensures.related;
      status = refl;
      line = c.in_ok-blasted_line.ensures;
      written = refl;
    })
