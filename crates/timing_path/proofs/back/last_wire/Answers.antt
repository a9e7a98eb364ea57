use Rattle.timing_path.proofs.Going.{leads_last}
use Rattle.timing_path.proofs.back.last_wire.Goals as goal

pub returns-else-delay-eq0 : goal.returns-else-delay-eq0
returns-else-delay-eq0 c = leads_last c.args.times.now c.args.delay _ c.requires c.if-delay-eq0.false c.first_at.ensures
