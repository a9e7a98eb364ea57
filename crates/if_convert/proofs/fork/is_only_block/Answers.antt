use Rattle.std.proofs.Common.{◌∙◌, sym, false}
use Rattle.ir_core.specs.declared.tree.Sequence.{out-Sequence}
use Rattle.if_convert.proofs.Rows.{not_only, counted}
use Rattle.if_convert.proofs.fork.is_only_block.Goals as goal

pub returns-else-is_empty : goal.returns-else-is_empty
returns-else-is_empty c = c.if-is_empty.false ∙ sym (not_only c.args.sequence.now (counted (out-Sequence c.args.sequence.now).rest false (sym c.is_empty.ensures ∙ c.if-is_empty.false)))
