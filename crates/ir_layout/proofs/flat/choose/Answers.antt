use Rattle.std.proofs.Common.{◌∙◌, ◌+◌, ◌++◌, ap, map, drop, Vec, Global}
use Rattle.std.specs.List.{zip}
use Rattle.hls_base.specs.declared.number.NodeId.{NodeId}
use Rattle.ir_core.specs.declared.body.Operand.{Operand}
use Rattle.ir_layout.specs.Nodes.{case_of}
use Rattle.ir_layout.specs.Views.{number}
use Rattle.ir_layout.proofs.Choosing.{case_pushed, case_past}
use Rattle.ir_layout.proofs.flat.choose.Goals.{then-index-cases+in_ok-push, else-index-cases}
use Rattle.ir_layout.proofs.flat.choose.Goals as goal

pub loop-index-preserved : goal.loop-index-preserved
loop-index-preserved c = elim c.if-index-cases.branch [
  | then-index-cases+in_ok-push w ↦ case_pushed c.args.tests.now c.args.cases.now c.loop-index.index c.loop-index-test.true c.loop-index.chosen.items c.if-index-cases.chosen.items _ _ _ w.if-index-cases.true (ap (λ v. v.items) w.chosen-is ∙ w.in_ok-push.ensures.items) c.loop-index.invariant
  | else-index-cases w ↦
      ap (λ (l : Vec (Operand × NodeId) Global). map case_of l.items ++ zip (drop (c.loop-index.index + 1) c.args.tests.now) (map number (drop (c.loop-index.index + 1) c.args.cases.now))) w.chosen-is
      ∙ case_past c.args.tests.now c.args.cases.now c.loop-index.index c.loop-index-test.true c.loop-index.chosen.items _ w.if-index-cases.false c.loop-index.invariant
]
