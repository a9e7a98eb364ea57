use Rattle.std.proofs.Common.{arith}
use Rattle.rtl_logic.specs.Making.{circuit}
use Rattle.rtl_logic.proofs.Making.{appended}
use Rattle.circuit_units.proofs.UnitsLemmas.Demands.{left_bits, right_bits, signed_bits}
use Rattle.circuit_units.proofs.UnitsLemmas.Adding.{demands_later, inputs_made}
use Rattle.circuit_units.proofs.units.units.inputs.Goals as goal

pub returns : goal.returns
returns c = λ p names h between.
    let d = circuit c.args.logic.now in
    let e = circuit c.wanted.new.logic in
    let f = circuit c.wanted-2.new.logic in
    let g = circuit c.wanted-3.new.logic in
    let unit = c.args.unit in
    let groups = c.args.groups.now in
    let left = c.in_ok-left.ensures p names h between (left_bits p unit) in
    let at_e = demands_later p names d e groups (appended d e left.appends) left.begun h in
    let right = c.in_ok-right.ensures p names at_e between (right_bits p unit) in
    let at_f = demands_later p names e f groups (appended e f right.appends) right.begun at_e in
    let signed = c.in_ok-signed.ensures p names at_f (omega arith, omega arith) (signed_bits p unit) in
    inputs_made p names d e f g unit (record { left = c.in_ok-left.left; right = c.in_ok-right.right; signed = c.in_ok-signed.signed }) left right signed
