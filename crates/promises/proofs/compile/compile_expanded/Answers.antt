use Rattle.std.proofs.Common.{◌≡◌, map, ◌∙◌}
use Rattle.rtl_core.specs.Netlist.{netlist_of}
use Rattle.cycle_report.specs.PlainReport.{plain_of, loop_of}
use Rattle.pieces.specs.Program.{expanded_of}
use Rattle.ir_lower.specs.Frames.{frame_view}
use Rattle.compile_steps.specs.Flat.{passes_of}
use Rattle.compile_steps.specs.Resets.{expanded_frame}
use Rattle.compile_steps.proofs.Counting.{each_node_counts}
use Rattle.compile_steps.proofs.Resets.{frame_is, reset_is}
use Rattle.promises.proofs.Compilable.{timed_buildable}
use Rattle.promises.proofs.compile.compile_expanded.Goals as goal

pub timed_program-requires : goal.timed_program-requires
timed_program-requires c =
    (c.requires.programs (passes_of c.args.settings.now) c.in_ok-untimed.untimed c.in_ok-untimed.ensures.flat (c.in_ok-untimed.ensures.frame ∙ frame_is c.args.expanded.now)).forward

pub circuit_of-requires : goal.circuit_of-requires
circuit_of-requires c =
    timed_buildable c.units_of-units.result c.in_ok-untimed.untimed c.in_ok-timed.field-0.timed (map loop_of c.in_ok-timed.field-0.loops.items) c.in_ok-timed.ensures
    (c.requires.programs (passes_of c.args.settings.now) c.in_ok-untimed.untimed c.in_ok-untimed.ensures.flat (c.in_ok-untimed.ensures.frame ∙ frame_is c.args.expanded.now))

pub returns-clause-longer : goal.returns-clause-longer
returns-clause-longer c =
    each_node_counts c.in_ok-untimed.untimed c.in_ok-timed.field-0.timed c.units_of-units.result (map loop_of c.in_ok-timed.field-0.loops.items) (plain_of c.in_ok-report.report)
    c.args.settings.now (netlist_of c.in_ok-design.design) c.in_ok-timed.ensures c.in_ok-report.ensures.report

pub returns-clause-frame : goal.returns-clause-frame
returns-clause-frame c = c.in_ok-timed.ensures.frame ∙ (c.in_ok-untimed.ensures.frame ∙ frame_is c.args.expanded.now)

pub returns-clause-init : goal.returns-clause-init
returns-clause-init c =
    let same : frame_view c.in_ok-timed.field-0.timed.frame ≡ expanded_frame (expanded_of c.args.expanded.now) =
    c.in_ok-timed.ensures.frame ∙ (c.in_ok-untimed.ensures.frame ∙ frame_is c.args.expanded.now) in
    reset_is c.in_ok-timed.field-0.timed.frame (expanded_frame (expanded_of c.args.expanded.now)) (plain_of c.in_ok-report.report).init same c.in_ok-report.ensures.report.init c.requires.addressable
