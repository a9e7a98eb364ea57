use Rattle.std.proofs.Common.{◌≡◌, ◌++◌, map, take}
use Rattle.chain_box.specs.StageEmbedding.Placing.{renamed_wire, exit_wire}
use Rattle.chain_link.specs.Places.{place_of}
use Rattle.chain_link.proofs.placing.push_exits.Given as goal

abbrev pub invariant-loop-output : goal.invariant-loop-output
invariant-loop-output l = l.all.items ≡ l.initial.all.items ++ map (renamed_wire (place_of l.spot)) (map exit_wire (take l.output-index l.outputs))
