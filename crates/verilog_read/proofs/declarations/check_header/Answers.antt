use Rattle.std.proofs.Common.{map}
use Rattle.verilog_syntax.specs.ModuleViews.{name_view}
use Rattle.verilog_read.specs.DeclarationViews.{declaration_views}
use Rattle.verilog_read.specs.Faults.{turn_faults, lacking_faults}
use Rattle.verilog_read.proofs.Loops.{noted_two}
use Rattle.verilog_read.proofs.declarations.check_header.Goals as goal

pub returns : goal.returns
returns c =
    let xs = map name_view c.args.header.now in
    let ds = declaration_views c.args.pins.now in
    noted_two c.args.first.now.found c.check_turns.new.first.found c.check_lacking.new.first.found (turn_faults xs ds) (lacking_faults xs ds) c.check_turns.ensures c.check_lacking.ensures
