use Rattle.piece_making.proofs.Making.{result_fresh, result_none}
use Rattle.piece_making.proofs.work.Work.fresh_result.Goals as goal

pub returns-in_ok-fresh-in-Some : goal.returns-in_ok-fresh-in-Some
returns-in_ok-fresh-in-Some c = result_fresh _ _ _ _ _ c.in-Some.is c.in_ok-fresh-in-Some.ensures

pub returns-in-None : goal.returns-in-None
returns-in-None c = result_none _ _ c.in-None.is
