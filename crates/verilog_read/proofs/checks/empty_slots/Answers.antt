use Rattle.std.proofs.Common.{◌≡◌, ◌∙◌, ap, arith, ◌++◌, ◌∷◌, [], None}
use Rattle.verilog_read.specs.Faults.{free_slots}
use Rattle.verilog_read.proofs.Assigning.{free_more}
use Rattle.verilog_read.proofs.checks.empty_slots.Goals as goal

pub loop-made-preserved : goal.loop-made-preserved
loop-made-preserved c = (c.in_ok-push.ensures.items ∙ (ap (λ x. x ++ None ∷ []) c.loop-made.invariant.0 ∙ free_more c.loop-made.made), omega arith)

pub returns : goal.returns
returns c = (let e : c.loop-made.made ≡ c.args.count = omega arith in c.loop-made.invariant.0 ∙ ap free_slots e)
