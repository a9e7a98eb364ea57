use Rattle.std.proofs.Common.{◌∙◌, ap}
use Rattle.ir_core.specs.Trees.{shape_of}
use Rattle.passes.specs.Lowering.{followed}
use Rattle.ir_lower.specs.Lines.{open_of, behind, ended}
use Rattle.ir_lower.proofs.line.Line.then.Goals as goal

pub returns : goal.returns
returns c = λ rest.
    let now = c.replace-closed.new.dest in
    let gone = c.replace-closed.result in
    let shape = c.into_inner.result in
    c.in_ok-self.ensures (rest (open_of now)) ∙ ap (λ b. behind gone.closed (followed b (shape_of shape) (rest (open_of now)))) c.in_ok-block.ensures
    ∙ (λ i. ended (c.replace-closed.ensures.value i) (λ b. followed b (shape_of (c.into_inner.ensures i)) (rest (open_of (c.replace-closed.ensures.after i)))))
    ∙ ap (λ x. ended c.args.self.now (λ b. followed b (shape_of c.args.shape.value) (rest x))) c.in_ok-next.ensures.open_
