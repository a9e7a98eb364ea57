use Rattle.std.proofs.Common.{ap}
use Rattle.ir_core.specs.Trees.{block_of}
use Rattle.passes.specs.Lowering.Copies.{with_copied}
use Rattle.ir_lower.proofs.copies.copied_block.Goals as goal

pub returns : goal.returns
returns c = ap (with_copied (block_of c.args.block)) c.in_ok-copied.ensures
