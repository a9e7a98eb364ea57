use Rattle.std.proofs.Common.{map, drop, ap, ◌∙◌, sym}
use Rattle.verilog_syntax.specs.ModuleViews.{name_view}
use Rattle.verilog_read.specs.DeclarationViews.{declaration_view}
use Rattle.verilog_read.specs.Earliest.{noted}
use Rattle.verilog_read.specs.Faults.{lacking_faults}
use Rattle.verilog_read.proofs.Loops.{none_left}
use Rattle.verilog_read.proofs.Headers.{lacking_on}
use Rattle.verilog_read.proofs.declarations.check_lacking.Goals as goal

pub loop-i-preserved : goal.loop-i-preserved
loop-i-preserved c = lacking_on c.args.header.now c.args.pins.now c.loop-i.i _ c.loop-i.first.found c.require.new.self.found _ c.loop-i-test.true c.require.ensures c.loop-i.invariant

pub returns : goal.returns
returns c =
    ap (λ ds. noted c.loop-i.first.found (lacking_faults (map name_view (drop c.loop-i.i c.args.header.now)) ds)) (sym (none_left declaration_view c.args.pins.now c.loop-i.i c.loop-i-test.false)) ∙ c.loop-i.invariant
