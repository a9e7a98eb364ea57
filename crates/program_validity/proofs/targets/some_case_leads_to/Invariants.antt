use Rattle.std.proofs.Common.{◌≡◌, drop}
use Rattle.std.specs.List.{list_any}
use Rattle.std.specs.Prelude.{◌==◌}
use Rattle.hls_base.specs.declared.number.NodeId.{NodeId}
use Rattle.ir_core.specs.declared.body.Operand.{Operand}
use Rattle.program_validity.proofs.targets.some_case_leads_to.Given as goal

abbrev pub invariant-loop-case : goal.invariant-loop-case
invariant-loop-case l = list_any (λ (c : Operand × NodeId). c.1.0 == l.node.0) (drop l.case-index l.cases) ≡ list_any (λ (c : Operand × NodeId). c.1.0 == l.node.0) l.cases
