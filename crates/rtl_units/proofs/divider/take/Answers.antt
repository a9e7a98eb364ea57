use Rattle.rtl_units.proofs.Divisions.{take_joined}
use Rattle.rtl_units.proofs.divider.take.Goals as goal

pub returns-clause-wires : goal.returns-clause-wires
returns-clause-wires c =
    take_joined _ _ c.args.division _ _ _ _ _ _ c.in_ok-left_sign.ensures.wires c.in_ok-left_sign.ensures.next_wire c.in_ok-left_sign.ensures.value.0 c.in_ok-left_sign.ensures.value.1
    c.in_ok-left.ensures.wires c.in_ok-quotient_negative.ensures.wires
