use Rattle.std.proofs.Common.{◌∙◌, ap, sym, map}
use Rattle.ir_core.specs.declared.tree.Part.{Part}
use Rattle.ir_core.specs.Trees.{sequence, no_part, block_of, part_of}
use Rattle.passes.specs.Lowering.{last}
use Rattle.ir_lower.specs.Lines.{behind}
use Rattle.ir_lower.proofs.Rows.{sequence_rolled, row_none, pushed}
use Rattle.ir_lower.proofs.line.with_last.Goals as goal

pub returns-in_ok-push-in-Parts : goal.returns-in_ok-push-in-Parts
returns-in_ok-push-in-Parts c =
    let p = c.in-Parts in
    let part : Part = record { shape = p.shape; after = c.args.block } in
    let new = c.push.new.self in
    sequence_rolled p.first new ∙ ap (sequence (block_of p.first)) (row_none (map part_of new.items) ∙ pushed p.rest.items new.items part no_part c.in_ok-push-in-Parts.ensures.items)
    ∙ sym (ap (λ l. behind l (last (block_of c.args.block))) p.is)
