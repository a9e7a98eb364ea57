use Rattle.fsm_datapath.proofs.LoggedWrites.MayTake.{unnamed_may_take}
use Rattle.fsm_datapath.proofs.logged_writes.unnamed_may_take.Goals as goal

pub returns : goal.returns
returns c = unnamed_may_take
