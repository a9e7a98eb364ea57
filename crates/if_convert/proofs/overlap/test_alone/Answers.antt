use Rattle.std.proofs.Common.{◌∙◌, sym, true, false}
use Rattle.ir_core.specs.declared.tree.Sequence.{out-Sequence}
use Rattle.if_convert.proofs.Rows.{alone, not_alone, counted}
use Rattle.if_convert.proofs.overlap.test_alone.Goals as goal

pub returns-then-is_empty : goal.returns-then-is_empty
returns-then-is_empty c = c.test_in.ensures ∙ sym (alone c.args.sequence.now (counted (out-Sequence c.args.sequence.now).rest true (sym c.is_empty.ensures ∙ c.if-is_empty.true)))

pub returns-else-is_empty : goal.returns-else-is_empty
returns-else-is_empty c = sym (not_alone c.args.sequence.now (counted (out-Sequence c.args.sequence.now).rest false (sym c.is_empty.ensures ∙ c.if-is_empty.false)))
