use Rattle.std.proofs.Common.{◌<◌, refl, length, map, arith}
use Rattle.std.specs.Prelude.{codes}
use Rattle.std.specs.List.{flat_map}
use Rattle.verilog_print.specs.PrintedSyntax.{write_of}
use Rattle.verilog_print.specs.PrintedText.{write_text}
use Rattle.verilog_print.proofs.BlockTexts.{one_block, three_texts, last_append, ports_text}
use Rattle.verilog_print.proofs.blocks.push_ports_block.Goals as goal

pub returns : goal.returns
returns c =
    let pins = c.args.pins.now in
    let writes = flat_map write_text (map (write_of pins c.args.k) c.args.ports.now) in
    let some : 0 < length c.args.ports.now = grind (arith, c.if-is_empty.ensures) in
    last_append c.extend_from_slice-2.result c.extend_from_slice-2.new.self.items c.push_writes.new.out.items (codes "end\n") _ c.extend_from_slice-2.ensures.items
    (three_texts c.args.out.now.items c.extend_from_slice.new.self.items c.push_writes.new.out.items _ (codes "always @(posedge clk) begin ") writes (codes "end\n") (ports_text pins c.args.k c.args.ports.now)
    c.in_ok-extend_from_slice.ensures.items c.in_ok-push_writes.ensures refl (one_block pins c.args.k c.args.ports.now some))
