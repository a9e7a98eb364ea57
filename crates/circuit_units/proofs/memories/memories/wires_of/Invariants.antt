use Rattle.std.proofs.Common.{◌≡◌, take, map}
use Rattle.circuit_units.specs.Memories.Places.{wires_at}
use Rattle.circuit_units.proofs.memories.memories.wires_of.Given as goal

abbrev pub invariant-loop-port : goal.invariant-loop-port
invariant-loop-port l = l.wires.items ≡ map wires_at (take l.port-index l.ports)
