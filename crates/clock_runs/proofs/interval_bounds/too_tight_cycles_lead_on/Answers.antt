use Rattle.clock_runs.proofs.IntervalBounds.Whole.{tight_leads_on}
use Rattle.clock_runs.proofs.interval_bounds.too_tight_cycles_lead_on.Goals as goal

pub returns : goal.returns
returns c = tight_leads_on
