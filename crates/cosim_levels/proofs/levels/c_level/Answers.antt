use Rattle.std.proofs.Common.{sym, ◌∙◌}
use Rattle.cosim_levels.proofs.RunInC.{ends_with, goes_on, has_no_meaning}
use Rattle.cosim_levels.proofs.levels.c_level.Goals as goal

pub returns-in-Ended-clause-ended : goal.returns-in-Ended-clause-ended
returns-in-Ended-clause-ended c = ends_with _ c.in-Ended.ended (sym c.in-Ended.is ∙ c.in_ok-ended.ensures)

pub returns-in-Running-clause-unended : goal.returns-in-Running-clause-unended
returns-in-Running-clause-unended c = goes_on _ c.args.points (sym c.in-Running.is ∙ c.in_ok-ended.ensures)

pub returns-in-Undefined-clause-unended : goal.returns-in-Undefined-clause-unended
returns-in-Undefined-clause-unended c = has_no_meaning _ c.args.points c.in-Undefined.rule c.in-Undefined.at (sym c.in-Undefined.is ∙ c.in_ok-ended.ensures)
