use Rattle.std.proofs.Common.{ap}
use Rattle.verilog_syntax.specs.ModuleViews.{wire_view}
use Rattle.verilog_read.specs.Scope.{wires_from}
use Rattle.verilog_read.proofs.Loops.{none_left, grown_all}
use Rattle.verilog_read.proofs.Declaring.{wire_more}
use Rattle.verilog_read.proofs.declarations.add_wires.Goals as goal

pub loop-i-preserved : goal.loop-i-preserved
loop-i-preserved c =
    wire_more c.args.declared.now c.loop-i.i _ c.loop-i.all.items c.push.new.self.items _ _ c.loop-i-test.true c.bits_of.ensures c.in_ok-push.ensures.items c.loop-i.invariant

pub returns : goal.returns
returns c = grown_all _ _ _ (ap (wires_from c.loop-i.i) (none_left wire_view c.args.declared.now c.loop-i.i c.loop-i-test.false)) c.loop-i.invariant
