use Rattle.std.proofs.Common.{◌≡◌, arith, true}
use Rattle.pieces.specs.View.{pure_of}
use Rattle.ir_core.specs.Trees.{exit_of}
use Rattle.passes.specs.Lowering.Blocks.{set}
use Rattle.block_draft.specs.Drafts.{scope_of}
use Rattle.ir_lower.proofs.Lining.{moved}
use Rattle.ir_lower.proofs.line.Line.set.Goals as goal

pub returns : goal.returns
returns c = λ rest.
    let line = c.args.self.now in
    let alive : c.is_live.result ≡ true = grind (arith, c.if-not-is_live.false) in
    moved line rest (set (scope_of c.args.expanded.now) c.args.variable (pure_of c.args.value.now)) c.is_live.result _ c.is_live.ensures alive (c.in_ok-set.ensures line.point (exit_of line.exit))
