use Rattle.std.proofs.Common.{◌≡◌, drop}
use Rattle.std.specs.List.{list_all}
use Rattle.hls_base.specs.declared.number.NodeId.{NodeId}
use Rattle.ir_core.specs.declared.body.Operand.{Operand}
use Rattle.program_validity.specs.Nodes.{is_there}
use Rattle.program_validity.proofs.well_timed.program.cases_are_there.Given as goal

abbrev pub invariant-loop-test : goal.invariant-loop-test
invariant-loop-test l = list_all (λ (c : Operand × NodeId). is_there l.ops l.length c.0) (drop l.test-index l.cases) ≡ list_all (λ (c : Operand × NodeId). is_there l.ops l.length c.0) l.cases
