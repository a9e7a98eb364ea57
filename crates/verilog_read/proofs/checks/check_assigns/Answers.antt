use Rattle.std.proofs.Common.{ap, ◌∙◌, sym}
use Rattle.rtl_core.proofs.Checks.{map_drop}
use Rattle.verilog_syntax.specs.ModuleViews.{assign_view}
use Rattle.verilog_read.specs.NameTable.{scope_in}
use Rattle.verilog_read.specs.Earliest.{noted}
use Rattle.verilog_read.specs.Faults.{assign_faults, after_assigns}
use Rattle.verilog_read.proofs.Loops.{none_left}
use Rattle.verilog_read.proofs.Assigning.{assign_on, assigns_on}
use Rattle.verilog_read.proofs.checks.check_assigns.Goals as goal

pub loop-i-preserved : goal.loop-i-preserved
loop-i-preserved c =
    let scope = scope_in c.args.names.now in
    let left = map_drop assign_view c.args.assigns.now c.loop-i.i _ c.loop-i-test.true in (
      assign_on scope c.loop-i.outputs _ c.loop-i.i _ _ _ c.loop-i.first.found c.check_assign.new.first.found _ left c.check_assign.ensures.slots c.check_assign.ensures.faults c.loop-i.invariant.0,
      assigns_on scope c.loop-i.outputs _ c.loop-i.i _ _ _ _ left c.check_assign.ensures.slots c.loop-i.invariant.1,
    )

pub returns-clause-faults : goal.returns-clause-faults
returns-clause-faults c =
    ap (λ xs. noted c.loop-i.first.found (assign_faults (scope_in c.args.names.now) c.loop-i.outputs c.loop-i.i xs)) (sym (none_left assign_view c.args.assigns.now c.loop-i.i c.loop-i-test.false)) ∙ c.loop-i.invariant.0

pub returns-clause-slots : goal.returns-clause-slots
returns-clause-slots c =
    ap (after_assigns (scope_in c.args.names.now) c.loop-i.outputs c.loop-i.i) (sym (none_left assign_view c.args.assigns.now c.loop-i.i c.loop-i-test.false)) ∙ c.loop-i.invariant.1
