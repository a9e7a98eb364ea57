use Rattle.std.proofs.Common.{◌≡◌, arith, true}
use Rattle.pieces.specs.View.{pure_of}
use Rattle.ir_core.specs.Trees.{BlockTree, exit_of}
use Rattle.passes.specs.Lowering.Blocks.{condition, branching}
use Rattle.block_draft.specs.Views.{made}
use Rattle.ir_lower.specs.Lines.{open_of}
use Rattle.ir_lower.proofs.Lining.{moved, tested_block}
use Rattle.ir_lower.proofs.line.Line.end_by_test.Goals as goal

pub returns : goal.returns
returns c = λ rest.
    let line = c.args.self.now in
    let draft = c.condition.new.self in
    let test = pure_of c.args.test.now in
    let alive : c.is_live.result ≡ true = grind (arith, c.if-not-is_live.false) in
    moved line rest (λ (b : BlockTree). branching b (condition test b)) c.is_live.result _ c.is_live.ensures alive
    (tested_block (open_of line) (made draft.ops c.in_ok-test.test) (condition test (open_of line)) draft.outs (c.in_ok-test.ensures.test line.point (exit_of line.exit)) c.in_ok-test.ensures.outs)
