use Rattle.circuit_units.specs.Memories.Places.{wires_at}
use Rattle.circuit_units.proofs.MemoriesLemmas.Steps.{mapped_more, mapped_all}
use Rattle.circuit_units.proofs.memories.memories.wires_of.Goals as goal

pub loop-port-init : goal.loop-port-init
loop-port-init c = c.in_ok-wires.ensures.items

pub loop-port-preserved : goal.loop-port-preserved
loop-port-preserved c = mapped_more wires_at c.args.ports.now c.loop-port.port-index _ c.loop-port.wires.items c.push.new.self.items c.loop-port-test.true c.loop-port.invariant c.in_ok-push.ensures.items

pub returns : goal.returns
returns c = mapped_all wires_at c.args.ports.now c.loop-port.port-index c.loop-port.wires.items c.loop-port-test.false c.loop-port.invariant
