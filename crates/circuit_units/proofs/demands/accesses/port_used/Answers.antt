use Rattle.std.proofs.Common.{◌∙◌, ap, arith}
use Rattle.clock_ir.specs.Flows.{timed_op}
use Rattle.datapath.specs.Ports.{port_of}
use Rattle.circuit_units.proofs.DemandsLemmas.Accessing.{number_inside}
use Rattle.circuit_units.proofs.DemandsLemmas.Reading.{same_place, stands_timed}
use Rattle.circuit_units.proofs.demands.accesses.port_used.Goals as goal

pub port-number-requires : goal.port-number-requires
port-number-requires c = omega (arith, number_inside c.args.of.now c.args.it.now c.requires, c.args.of.now.numbered.rows c.args.it.now.at.node.0)

pub returns-clause-port : goal.returns-clause-port
returns-clause-port c = λ p names context there access array. record {
  array = array;
  number = c.port-number.ensures p (timed_op c.args.it.now.op.now) c.args.array context.ports_ (stands_timed p c.args.it.now there) access array ∙ ap (port_of p c.args.array.0) (same_place p c.args.it.now there);
}
