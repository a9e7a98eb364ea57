use Rattle.std.proofs.Common.{◌≡◌, map, take}
use Rattle.chain_box.specs.StageEmbedding.Placing.{renamed_port}
use Rattle.chain_link.specs.Places.{place_of}
use Rattle.chain_link.proofs.placing.renamed_ports.Given as goal

abbrev pub invariant-loop-port : goal.invariant-loop-port
invariant-loop-port l = l.all.items ≡ map (renamed_port (place_of l.spot)) (take l.port-index l.ports)
