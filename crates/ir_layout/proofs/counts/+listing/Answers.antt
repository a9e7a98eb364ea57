use Rattle.std.proofs.Common.{◌∙◌}
use Rattle.ir_layout.proofs.Listing.{listed}
use Rattle.ir_layout.proofs.counts.+listing.Goals as goal

pub list_sequence-returns-clause-sizes : goal.list_sequence-returns-clause-sizes
list_sequence-returns-clause-sizes t c =
    listed c.args.sizes.now.items c.push.new.self.items c.list_parts.new.sizes.items c.write_at.new.sizes.items c.args.sequence.now c.deref.result.now c.len-first.result c.in_ok-count.count c.in_ok-list_parts.field-0
    c.deref.ensures.value c.in_ok-push.ensures.items c.in_ok-list_parts.ensures.sizes (c.len-first.ensures ∙ c.args.sizes.now.ok.0) c.in_ok-list_parts.ensures.count c.in_ok-count.ensures c.write_at.ensures
