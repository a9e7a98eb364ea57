use Rattle.std.proofs.Common.{map, refl, sym, ap, ◌∙◌, arith}
use Rattle.ir_core.specs.Bodies.{op_of, first_bits}
use Rattle.clock_ir.specs.Flows as flows
use Rattle.clock_machine.specs.Lines.Reads.{read_of}
use Rattle.clock_machine.specs.Lines.Regions.{body_of}
use Rattle.clock_machine.proofs.LinesLemmas.Appending.{trees_of}
use Rattle.clock_machine.proofs.lines.reads.Region.action.Goals as goal

pub returns : goal.returns
returns c = λ k orderly early same entry.
    let b = body_of c.args.self.now in
    let op = c.args.op.now in record {
      kind = refl;
      signed = refl;
      bits = refl;
      from_bits = c.first_bits.ensures ∙ ap (λ ts. first_bits c.args.self.now.widths.now ts (op_of op) op.args.items) (sym (trees_of c.args.self.now.body.now.ops.items));
      args = c.in_ok-reads.ensures orderly early ∙ ap (map (read_of b op.stamp.start)) c.as_slice.ensures;
      array = refl;
      guard = c.operand_if.ensures orderly early;
      start = refl;
      ready = c.ready_by.ensures early;
      soon = omega arith;
      gate = c.place.ensures orderly.positive orderly.small (omega arith) early ∙ ap (λ n. flows.place c.args.self.now.interval n op.stamp.start 0) same;
      wait = c.wait_of.ensures orderly.positive;
      entry = entry;
    }
