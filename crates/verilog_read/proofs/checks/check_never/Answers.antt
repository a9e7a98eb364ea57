use Rattle.std.proofs.Common.{ap, ◌∙◌, sym}
use Rattle.verilog_syntax.specs.ModuleViews.{declared_view}
use Rattle.verilog_read.specs.Earliest.{noted}
use Rattle.verilog_read.specs.Faults.{never_faults, declared_names}
use Rattle.verilog_read.proofs.Loops.{none_left}
use Rattle.verilog_read.proofs.Assigning.{never_on}
use Rattle.verilog_read.proofs.checks.check_never.Goals as goal

pub loop-i-preserved : goal.loop-i-preserved
loop-i-preserved c =
    never_on c.args.slots.now c.args.declared.now c.loop-i.i _ c.loop-i.first.found c.require.new.self.found _ c.is_assigned.result c.loop-i-test.true c.is_assigned.ensures c.require.ensures c.loop-i.invariant

pub returns : goal.returns
returns c =
    ap (λ y. noted c.loop-i.first.found (never_faults c.args.slots.now c.loop-i.i (declared_names y))) (sym (none_left declared_view c.args.declared.now c.loop-i.i c.loop-i-test.false)) ∙ c.loop-i.invariant
