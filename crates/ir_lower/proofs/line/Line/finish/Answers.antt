use Rattle.std.proofs.Common.{◌∙◌, ap}
use Rattle.ir_core.specs.Trees.{sequence_of}
use Rattle.passes.specs.Lowering.{last}
use Rattle.ir_lower.specs.declared.line.Line.{Line}
use Rattle.ir_lower.specs.Lines.{behind, ended}
use Rattle.ir_lower.proofs.line.Line.finish.Goals as goal

pub returns : goal.returns
returns c =
    ap sequence_of c.in_ok-new.ensures.ok ∙ c.in_ok-blocks.ensures ∙ ap (λ b. behind c.into_inner-closed.result.closed (last b)) c.in_ok-block.ensures
    ∙ ap (λ (l : Line). ended l last) c.into_inner-closed.ensures
