use Rattle.rtl_logic.specs.Making.{circuit}
use Rattle.circuit_units.proofs.DemandsLemmas.Owning.{has_wire}
use Rattle.circuit_units.proofs.DemandsLemmas.Making.{one_wire}
use Rattle.circuit_units.proofs.demands.results.wire_of.Goals as goal

pub returns-in_ok-result_of-in_default : goal.returns-in_ok-result_of-in_default
returns-in_ok-result_of-in_default c = λ p names context begun there.
    let none = c.in_default in
    let wire = has_wire c.args.it.now.op.now.kind none.not-Mul none.not-Div none.not-Rem none.not-Load none.not-Store in
    one_wire p names (circuit c.args.logic.now) (circuit c.result_of.new.logic) _ c.args.it.now c.in_ok-result_of-in_default.field-0 wire
    (c.in_ok-result_of-in_default.ensures p names context begun there wire)
