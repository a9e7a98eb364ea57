use Rattle.fsm_datapath.proofs.LoggedWrites.Unnamed.{logged_nowhere_else}
use Rattle.fsm_datapath.proofs.logged_writes.logged_nowhere_else.Goals as goal

pub returns : goal.returns
returns c = logged_nowhere_else
