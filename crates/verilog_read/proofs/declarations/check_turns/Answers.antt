use Rattle.std.proofs.Common.{map, drop, ap, ◌∙◌, sym}
use Rattle.verilog_syntax.specs.ModuleViews.{name_view}
use Rattle.verilog_read.specs.DeclarationViews.{declaration_view}
use Rattle.verilog_read.specs.Earliest.{noted}
use Rattle.verilog_read.specs.Faults.{turn_faults}
use Rattle.verilog_read.proofs.Loops.{none_left}
use Rattle.verilog_read.proofs.Headers.{turn_on}
use Rattle.verilog_read.proofs.declarations.check_turns.Goals as goal

pub loop-i-preserved : goal.loop-i-preserved
loop-i-preserved c = turn_on c.args.header.now c.args.pins.now c.loop-i.i _ c.loop-i.first.found c.require.new.self.found _ c.is_turn.result c.loop-i-test.true c.is_turn.ensures c.require.ensures c.loop-i.invariant

pub returns : goal.returns
returns c =
    ap (λ xs. noted c.loop-i.first.found (turn_faults xs (map declaration_view (drop c.loop-i.i c.args.pins.now)))) (sym (none_left name_view c.args.header.now c.loop-i.i c.loop-i-test.false)) ∙ c.loop-i.invariant
