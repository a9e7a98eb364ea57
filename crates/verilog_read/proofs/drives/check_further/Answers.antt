use Rattle.std.proofs.Common.{ap, ◌∙◌, ◌++◌}
use Rattle.verilog_syntax.specs.ModuleViews.{write_view}
use Rattle.verilog_read.specs.NameTable.{scope_in}
use Rattle.verilog_read.specs.Earliest.{noted}
use Rattle.verilog_read.specs.Faults.{unless, bits_faults, known_faults, port_faults, write_faults}
use Rattle.verilog_read.proofs.Loops.{noted_two}
use Rattle.std.specs.Prelude.{bytes_eq}
use Rattle.verilog_read.proofs.drives.check_further.Goals as goal

pub returns : goal.returns
returns c =
    let scope = scope_in c.args.names.now in
    let x = write_view c.args.x in
    let operands = bits_faults scope x.enable 1 ++ (known_faults scope x.address ++ known_faults scope x.value) in
    let written = c.check_write.ensures ∙ ap (λ m. noted c.args.first.now.found (operands ++ port_faults scope x m)) c.find_sort-memory.ensures in
    noted_two c.args.first.now.found c.check_write.new.first.found c.require.new.self.found (write_faults scope x) (unless (bytes_eq x.memory.text c.args.block.now) 54 x.memory.place) written
    (c.require.ensures ∙ ap (λ b. noted c.check_write.new.first.found (unless b 54 x.memory.place)) c.eq.ensures)
