use Rattle.std.proofs.Common.{◌∙◌, ap, sym, map}
use Rattle.ir_core.specs.declared.tree.Part.{Part}
use Rattle.ir_core.specs.Trees.{sequence, no_part, block_of, part_of}
use Rattle.if_convert.specs.Blocks.{open_of, last_of, before_last}
use Rattle.if_convert.proofs.Rows.{sequence_rolled, row_none, pushed}
use Rattle.if_convert.proofs.line.close.Goals as goal

pub returns-in_ok-push-in-Behind : goal.returns-in_ok-push-in-Behind
returns-in_ok-push-in-Behind c =
    let part : Part = record { shape = c.in-Behind.shape; after = c.in_ok-after-in-Behind.after } in
    sequence_rolled c.in-Behind.first c.push.new.self ∙ ap (sequence (block_of c.in-Behind.first)) (row_none (map part_of c.push.new.self.items) ∙ pushed c.in-Behind.rest.items c.push.new.self.items part (open_of c.in-Behind.last) no_part c.in_ok-push-in-Behind.ensures.items c.in_ok-after-in-Behind.ensures)
    ∙ sym (ap (λ l. before_last l (sequence (last_of l) no_part)) c.in-Behind.is)
