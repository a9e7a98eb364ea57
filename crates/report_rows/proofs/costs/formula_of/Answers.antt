use Rattle.report_rows.proofs.Merging.{rows_of, each_counts}
use Rattle.report_rows.proofs.costs.formula_of.Goals as goal

pub returns-clause-rows : goal.returns-clause-rows
returns-clause-rows c =
    rw (c.in_ok-rows.ensures) (rows_of c.args.nodes.now c.in_ok-costs-2.costs.items (rw (c.in_ok-costs.ensures.costs) at c.in_ok-costs-2.ensures.moved) c.in_ok-costs-2.ensures.sorted)

pub returns-clause-longer : goal.returns-clause-longer
returns-clause-longer c = each_counts c.args.nodes.now c.in_ok-rows.rows.items (returns-clause-rows c)
