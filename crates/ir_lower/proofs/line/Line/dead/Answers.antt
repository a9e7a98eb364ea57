use Rattle.std.proofs.Common.{◌∙◌, ap}
use Rattle.ir_core.specs.Trees.{break_}
use Rattle.block_draft.specs.Drafts.{opened}
use Rattle.ir_lower.specs.declared.line.Line.{Line}
use Rattle.ir_lower.specs.Lines.{ended}
use Rattle.ir_lower.proofs.line.Line.dead.Goals as goal

pub returns : goal.returns
returns c = λ rest. ap (λ (l : Line). ended l rest) c.in_ok-new.ensures.ok ∙ (λ i. rest (opened (c.in_ok-copy.ensures i) break_ (c.new.ensures i)))
