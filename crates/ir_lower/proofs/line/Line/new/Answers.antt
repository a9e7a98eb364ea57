use Rattle.std.proofs.Common.{◌∙◌, ap}
use Rattle.ir_lower.specs.declared.line.Line.{Line}
use Rattle.ir_lower.specs.Lines.{open_of, ended}
use Rattle.ir_lower.proofs.line.Line.new.Goals as goal

pub returns : goal.returns
returns c = λ rest. ap (λ (l : Line). ended l rest) c.in_ok-new.ensures.ok ∙ c.in_ok-line.ensures.closed (rest (open_of c.in_ok-line.line)) ∙ ap rest c.in_ok-line.ensures.open_
