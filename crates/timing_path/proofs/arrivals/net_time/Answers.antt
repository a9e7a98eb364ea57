use Rattle.std.proofs.Common.{inl, inr}
use Rattle.timing_path.proofs.Arriving.{found_named}
use Rattle.timing_path.proofs.arrivals.net_time.Goals as goal

pub atom_time-requires : goal.atom_time-requires
atom_time-requires c = λ j w. c.requires j (found_named c.args.net c.operands-a.result c.operands-a.ensures j (inl w))

pub atom_time-requires-2 : goal.atom_time-requires-2
atom_time-requires-2 c = λ j w. c.requires j (found_named c.args.net c.operands-a.result c.operands-a.ensures j (inr (inl w)))

pub atom_time-requires-3 : goal.atom_time-requires-3
atom_time-requires-3 c = λ j w. c.requires j (found_named c.args.net c.operands-a.result c.operands-a.ensures j (inr (inr w)))
