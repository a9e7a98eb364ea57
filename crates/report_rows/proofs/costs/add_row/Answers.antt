use Rattle.report_rows.proofs.Merging.{rows_behind}
use Rattle.report_rows.proofs.costs.add_row.Goals as goal

pub returns-in-Some : goal.returns-in-Some
returns-in-Some c = rw (c.in-Some.ensures.items) (rw (rows_behind c.pop.new.self.items c.in-Some.last c.args.cost) c.add_behind.ensures)
