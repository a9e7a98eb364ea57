use Rattle.std.proofs.Common.{◌≡◌, ◌++◌, map, take}
use Rattle.chain_box.specs.StageEmbedding.Placing.{renamed_wire}
use Rattle.chain_link.specs.Places.{place_of}
use Rattle.chain_link.proofs.placing.push_wires.Given as goal

abbrev pub invariant-loop-wire : goal.invariant-loop-wire
invariant-loop-wire l = l.all.items ≡ l.initial.all.items ++ map (renamed_wire (place_of l.spot)) (take l.wire-index l.wires)
