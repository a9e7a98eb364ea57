use Rattle.std.proofs.Common.{◌∙◌, sym, ap, ◌++◌, ◌∷◌, [], map, drop, ◌+◌}
use Rattle.verilog_syntax.specs.ModuleViews.{drive_view}
use Rattle.verilog_read.specs.NameTable.{scope_in}
use Rattle.verilog_read.specs.Circuit.{further_ports}
use Rattle.verilog_read.proofs.Ports.{block_begins, block_begins_not}
use Rattle.verilog_read.proofs.circuit.block_ports.Goals as goal

pub loop-i-init : goal.loop-i-init
loop-i-init c =
    let scope = scope_in c.args.names.now in
    let rest = further_ports scope (map drive_view (drop (c.args.start + 1) c.args.drives.now)) in
    ap (λ x. x ++ rest) (c.in_ok-push-in-Some.ensures.items ∙ ap (λ x. x ++ c.in-Some.port ∷ []) c.new-ports.ensures.items)
    ∙ sym (block_begins scope c.args.drives.now c.args.start _ c.in-Some.port c.if-start-drives.false (sym c.first_port.ensures ∙ c.in-Some.is))

pub returns-in-None : goal.returns-in-None
returns-in-None c =
    c.new-ports.ensures.items ∙ sym (block_begins_not (scope_in c.args.names.now) c.args.drives.now c.args.start _ c.if-start-drives.false (sym c.first_port.ensures ∙ c.in-None.is))
