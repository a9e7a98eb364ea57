use Rattle.std.proofs.Common.{ap}
use Rattle.verilog_syntax.specs.ModuleViews.{memory_view}
use Rattle.verilog_read.specs.Scope.{memories_from}
use Rattle.verilog_read.proofs.Loops.{none_left, grown_all}
use Rattle.verilog_read.proofs.Declaring.{memory_more}
use Rattle.verilog_read.proofs.declarations.add_memories.Goals as goal

pub loop-i-preserved : goal.loop-i-preserved
loop-i-preserved c =
    memory_more c.args.declared.now c.loop-i.i _ c.loop-i.all.items c.push.new.self.items _ _ _ c.loop-i-test.true c.bits_of.ensures c.depth_of.ensures c.in_ok-push.ensures.items c.loop-i.invariant

pub returns : goal.returns
returns c = grown_all _ _ _ (ap (memories_from c.loop-i.i) (none_left memory_view c.args.declared.now c.loop-i.i c.loop-i-test.false)) c.loop-i.invariant
