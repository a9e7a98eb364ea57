use Rattle.std.proofs.lemmas.Result.{IfOk-weaker}
use Rattle.rtl_logic.specs.Making.{circuit}
use Rattle.circuit_units.proofs.DemandsLemmas.Pushing.{address_logged}
use Rattle.circuit_units.proofs.DemandsLemmas.Accessing.{node_inside, some_stored, dimensions}
use Rattle.circuit_units.proofs.demands.accesses.give_address.Goals as goal

pub returns : goal.returns
returns c = λ p names context begun port.
    let starts = c.in_ok-when.ensures p names context begun in
    let made = c.in_ok-address.ensures p names context starts.begun in
    IfOk-weaker c.push.result _ _
    (λ u is.
    address_logged p names (circuit c.args.logic.now) (circuit c.at.new.logic) (circuit c.address.new.logic) c.args.log.now.pushes.items c.push.new.self.pushes.items c.args.it.now c.args.port
    c.subscripts-subscripts.result.now c.in_ok-when.when c.in_ok-address.address port starts made (λ f. c.subscripts-subscripts.ensures f) is)
    c.push.ensures

pub at-requires : goal.at-requires
at-requires c = node_inside c.args.of.now c.args.it.now c.requires.program

pub address-requires-clause-node : goal.address-requires-clause-node
address-requires-clause-node c = node_inside c.args.of.now c.args.it.now c.requires.program

pub subscripts-subscripts-requires : goal.subscripts-subscripts-requires
subscripts-subscripts-requires c = λ kind. some_stored c.args.of.now c.args.it.now c.requires.program kind

pub address-requires-clause-array : goal.address-requires-clause-array
address-requires-clause-array c = dimensions c.args.of.now c.args.it.now c.args.port.array c.subscripts-subscripts.result.now c.requires.program c.requires.access (λ f. c.subscripts-subscripts.ensures f)
