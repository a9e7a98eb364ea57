use Rattle.ir_core.specs.Trees.{next}
use Rattle.block_draft.specs.Drafts.{opened}
use Rattle.ir_lower.proofs.line.Line.at.Goals as goal

pub returns-clause-open_ : goal.returns-clause-open_
returns-clause-open_ c = λ i. opened (c.in_ok-copy.ensures i) next (c.new.ensures i)
