use Rattle.std.proofs.Common.{◌∙◌, ap, sym, map, List}
use Rattle.ir_core.specs.declared.tree.Part.{Part}
use Rattle.ir_core.specs.Trees.{sequence, block_of, part_of, shape_of}
use Rattle.passes.specs.Lowering.{followed}
use Rattle.ir_lower.specs.Lines.{behind, with_parts, shape_before}
use Rattle.ir_lower.proofs.Rows.{pushed, followed_is, before_followed}
use Rattle.ir_lower.proofs.line.with_block.Goals as goal

pub returns-in_ok-push-in-Parts : goal.returns-in_ok-push-in-Parts
returns-in_ok-push-in-Parts c = λ blocks.
    let p = c.in-Parts in
    let part : Part = record { shape = p.before; after = c.args.block } in
    let b = block_of c.args.block in
    let shape = shape_of c.args.shape in
    ap (sequence (block_of p.first)) (pushed p.rest.items c.push.new.self.items part (shape_before shape blocks) c.in_ok-push-in-Parts.ensures.items)
    ∙ ap (λ m. sequence (block_of p.first) (with_parts (map part_of p.rest.items) m)) (sym (before_followed (shape_of p.before) shape b blocks))
    ∙ sym (ap (λ l. behind l (followed b shape blocks)) p.is)

pub returns-in-Nothing : goal.returns-in-Nothing
returns-in-Nothing c = λ blocks.
    let b = block_of c.args.block in
    let shape = shape_of c.args.shape in
    ap (λ (l : List Part). sequence b (with_parts (map part_of l) (shape_before shape blocks))) c.new.ensures.items ∙ sym (followed_is b shape blocks) ∙ sym (ap (λ l. behind l (followed b shape blocks)) c.in-Nothing.is)
