use Rattle.rtl_units.proofs.Divisions.{step_joined}
use Rattle.rtl_units.proofs.divider.take_step.Goals as goal

pub returns-clause-wires : goal.returns-clause-wires
returns-clause-wires c =
    step_joined _ _ _ c.args.state _ _ _ _ c.in_ok-subtraction.ensures.wires c.in_ok-subtraction.ensures.next_wire c.in_ok-subtraction.ensures.value c.in_ok-step.ensures.wires
