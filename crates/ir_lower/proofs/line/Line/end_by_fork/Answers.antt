use Rattle.std.proofs.Common.{◌≡◌, arith, true, ap, List}
use Rattle.pieces.specs.View.{pure_of, pieces_of}
use Rattle.ir_core.specs.declared.body.Out.{Out}
use Rattle.ir_core.specs.Trees.{BlockTree, exit_of}
use Rattle.passes.specs.Lowering.Blocks.{condition, forking}
use Rattle.block_draft.specs.Views.{ops_of, made}
use Rattle.block_draft.specs.Drafts.{scope_of, open_at}
use Rattle.ir_lower.specs.Lines.{open_of}
use Rattle.ir_lower.proofs.Lining.{moved, forked_block}
use Rattle.ir_lower.proofs.line.Line.end_by_fork.Goals as goal

pub returns : goal.returns
returns c = λ rest.
    let line = c.args.self.now in
    let b = open_of line in
    let scope = scope_of c.args.expanded.now in
    let test = pure_of c.args.test.now in
    let yes_ = pieces_of c.args.yes.now.items in
    let no_ = pieces_of c.args.no.now.items in
    let first = c.condition.new.self in
    let second = c.set_before.new.draft in
    let third = c.set_before-2.new.draft in
    let exit = exit_of line.exit in
    let alive : c.is_live.result ≡ true = grind (arith, c.if-not-is_live.false) in
    moved line rest (λ (b : BlockTree). forking scope yes_ no_ b (condition test b)) c.is_live.result _ c.is_live.ensures alive
    (forked_block scope yes_ no_ b (open_at line.point exit first) (open_at line.point exit second) (open_at line.point exit third) (made first.ops c.in_ok-test.test) (condition test b)
    (c.in_ok-test.ensures.test line.point exit) (ap (λ (l : List Out). record b { ops = ops_of first.ops; outs = l }) c.in_ok-test.ensures.outs)
    (c.in_ok-set_before.ensures line.point exit) (c.in_ok-set_before-2.ensures line.point exit))
