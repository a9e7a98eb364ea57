use Rattle.fsm_datapath.proofs.LoggedWrites.Unnamed.{unnamed_are_given_nothing}
use Rattle.fsm_datapath.proofs.logged_writes.unnamed_are_given_nothing.Goals as goal

pub returns : goal.returns
returns c = unnamed_are_given_nothing
