use Rattle.std.proofs.Common.{sym, ◌∙◌}
use Rattle.report_rows.proofs.Merging.{stays_apart}
use Rattle.report_rows.proofs.costs.add_behind.Goals as goal

pub returns-in_ok-push-3 : goal.returns-in_ok-push-3
returns-in_ok-push-3 c =
    stays_apart c.args.rows.now.items c.push-else-is_same_point.new.self.items c.push-else-is_same_point-2.new.self.items c.args.last c.args.cost
    (sym c.is_same_point.ensures ∙ c.if-is_same_point.false) c.in_ok-push-2.ensures.items c.in_ok-push-3.ensures.items
