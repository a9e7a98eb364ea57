use Rattle.timing_path.proofs.Single as single
use Rattle.timing_path.proofs.laws.no_delay_gives_no_wires.Goals as goal

pub returns : goal.returns
returns c = single.no_delay_gives_no_wires
