use Rattle.std.proofs.Common.{◌≡◌, arith, true}
use Rattle.pieces.specs.View.{pure_of}
use Rattle.ir_core.specs.Trees.{BlockTree}
use Rattle.passes.specs.Lowering.Blocks.{choosing}
use Rattle.block_draft.specs.Drafts.{cases_of, switched_cases}
use Rattle.ir_lower.specs.Lines.{open_of}
use Rattle.ir_lower.proofs.Lining.{moved, chosen_block}
use Rattle.ir_lower.proofs.line.Line.end_by_cases.Goals as goal

pub returns : goal.returns
returns c = λ rest.
    let line = c.args.self.now in
    let b = open_of line in
    let draft = c.cases.new.self in
    let test = pure_of c.args.test.now in
    let labels = c.args.labels.now in
    let alive : c.is_live.result ≡ true = grind (arith, c.if-not-is_live.false) in
    moved line rest (λ (b : BlockTree). choosing b (switched_cases test labels b.outs b.ops)) c.is_live.result _ c.is_live.ensures alive
    (chosen_block b (cases_of draft.ops c.in_ok-cases.cases.items) (switched_cases test labels b.outs b.ops) draft.outs c.in_ok-cases.ensures.cases c.in_ok-cases.ensures.outs)
