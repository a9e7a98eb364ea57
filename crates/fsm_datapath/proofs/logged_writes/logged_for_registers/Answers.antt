use Rattle.fsm_datapath.proofs.LoggedWrites.Logged.{logged_for_registers}
use Rattle.fsm_datapath.proofs.logged_writes.logged_for_registers.Goals as goal

pub returns : goal.returns
returns c = logged_for_registers
