use Rattle.std.proofs.Common.{◌≡◌, arith, true}
use Rattle.pieces.specs.View.{pure_of, pures_of}
use Rattle.ir_core.specs.Trees.{exit_of}
use Rattle.passes.specs.Lowering.Blocks.{put}
use Rattle.block_draft.specs.Drafts.{scope_of}
use Rattle.ir_lower.proofs.Lining.{moved}
use Rattle.ir_lower.proofs.line.Line.put.Goals as goal

pub returns : goal.returns
returns c = λ rest.
    let line = c.args.self.now in
    let alive : c.is_live.result ≡ true = grind (arith, c.if-not-is_live.false) in
    moved line rest (put (scope_of c.args.expanded.now) c.args.array (pures_of c.args.subscripts.now.items) (pure_of c.args.value.now) c.args.at) c.is_live.result _ c.is_live.ensures alive (c.in_ok-put.ensures line.point (exit_of line.exit))
