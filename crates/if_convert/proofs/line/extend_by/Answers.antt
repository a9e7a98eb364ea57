use Rattle.std.proofs.Common.{◌∙◌, ap, sym}
use Rattle.ir_core.specs.declared.tree.Part.{Part}
use Rattle.ir_core.specs.Trees.{sequence, block_of, shape_of}
use Rattle.passes.specs.Conversion.{part_before}
use Rattle.if_convert.specs.Blocks.{open_of, last_of, before_last}
use Rattle.if_convert.proofs.Rows.{pushed}
use Rattle.if_convert.proofs.line.extend_by.Goals as goal

pub returns-in_ok-push-in-Behind-clause-before : goal.returns-in_ok-push-in-Behind-clause-before
returns-in_ok-push-in-Behind-clause-before c = λ s.
    let part : Part = record { shape = c.in-Behind.before; after = c.in_ok-after-in-Behind.after } in
    ap (sequence (block_of c.in-Behind.first))
    (pushed c.in-Behind.rest.items c.push.new.self.items part (open_of c.in-Behind.open) (part_before (shape_of c.args.shape) s) c.in_ok-push-in-Behind.ensures.items c.in_ok-after-in-Behind.ensures)
    ∙ sym (ap (λ l. before_last l (sequence (last_of l) (part_before (shape_of c.args.shape) s))) c.in-Behind.is)
