use Rattle.c_machine.proofs.KeptMoves.{moves_follow}
use Rattle.c_machine.proofs.laws.moves_follow.Goals as goal

pub returns : goal.returns
returns c = moves_follow
