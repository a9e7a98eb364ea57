use Rattle.std.proofs.Common.{◌⊎◌, inl, inr}
use Rattle.timing_path.specs.Paths.{IsWire}
use Rattle.timing_path.proofs.Arriving.{found_named, least_lesser, least_named}
use Rattle.timing_path.proofs.back.named_at.Goals as goal

pub atom_at-requires : goal.atom_at-requires
atom_at-requires c = λ j w. c.requires j (found_named c.args.net c.operands-a.result c.operands-a.ensures j (inl w))

pub atom_at-requires-2 : goal.atom_at-requires-2
atom_at-requires-2 c = λ j w. c.requires j (found_named c.args.net c.operands-a.result c.operands-a.ensures j (inr (inl w)))

pub atom_at-requires-3 : goal.atom_at-requires-3
atom_at-requires-3 c = λ j w. c.requires j (found_named c.args.net c.operands-a.result c.operands-a.ensures j (inr (inr w)))

pub returns : goal.returns
returns c =
    let o = c.operands-a.result in
    let times = c.args.times.now in
    let rest = least_lesser (IsWire o.1) (IsWire o.2) times c.args.time _ _ _ c.atom_at-2.ensures c.atom_at-3.ensures c.lesser.ensures in
    least_named c.args.net o times c.args.time _ c.operands-a.ensures
    (least_lesser (IsWire o.0) (λ j. IsWire o.1 j ⊎ IsWire o.2 j) times c.args.time _ _ _ c.atom_at.ensures rest c.lesser-2.ensures)
