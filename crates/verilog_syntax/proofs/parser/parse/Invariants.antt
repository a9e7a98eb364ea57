use Rattle.std.proofs.Common.{◌-◌, length}
use Rattle.verilog_syntax.proofs.Reading.{Reading}
use Rattle.verilog_syntax.specs.ModuleViews.{module_view}
use Rattle.verilog_syntax.proofs.parser.parse.Given as goal

abbrev pub invariant-loop-last : goal.invariant-loop-last
invariant-loop-last l = Reading l.tokens l.last l.seen (module_view l.module)

abbrev pub decreases-loop-last : goal.decreases-loop-last
decreases-loop-last l = length l.tokens - l.seen
