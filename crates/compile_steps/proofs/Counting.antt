-- A run that comes to a node takes a cycle at least, beside the first.
use Rattle.std.proofs.Common.{List}
use Rattle.std.proofs.lemmas.List.Elements.{All-contains}
use Rattle.hls_base.specs.declared.settings.Settings.{Settings}
use Rattle.hls_base.specs.declared.settings.Units.{Units}
use Rattle.ir_core.specs.declared.cfg.Cfg.{Cfg}
use Rattle.ir_core.specs.declared.stamp.Untimed.{Untimed}
use Rattle.ir_core.specs.declared.timed.Timed.{Timed}
use Rattle.rtl_core.specs.Netlist.{Netlist}
use Rattle.cycle_report.specs.PlainReport.{PlainLoop, PlainReport}
use Rattle.report_rows.specs.Costs.{IsAtLeastOne}
use Rattle.report_rows.proofs.Merging.{each_counts}
use Rattle.report_rows.proofs.Loops.{all_count}
use Rattle.compile_steps.specs.Reports.{IsTimed, IsReportOf, EachNodeCounts}

pub each_node_counts : (untimed : Cfg Untimed) (timed : Cfg Timed) (units : Units) (loops : List PlainLoop) (report : PlainReport) (settings : Settings) (design : Netlist)
    → IsTimed units untimed timed loops → IsReportOf report settings timed design → EachNodeCounts timed.nodes.items report
each_node_counts untimed timed units loops report settings design is of node tally within passed =
    rw (of.base) (each_counts timed.nodes.items report.rows of.rows node tally within
    (All-contains IsAtLeastOne timed.nodes.items node
    (all_count untimed.frame.memories.items units untimed.nodes.items timed.nodes.items is.nodes.found is.nodes.each) within)
    passed)
