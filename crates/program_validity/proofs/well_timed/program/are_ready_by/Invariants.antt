use Rattle.std.proofs.Common.{◌≡◌, drop, Some}
use Rattle.std.specs.List.{list_all}
use Rattle.ir_core.specs.declared.body.Op.{Op}
use Rattle.ir_core.specs.declared.timed.Timed.{Timed}
use Rattle.program_validity.specs.Nodes.{is_ready_by}
use Rattle.program_validity.proofs.well_timed.program.are_ready_by.Given as goal

abbrev pub invariant-loop-op : goal.invariant-loop-op
invariant-loop-op l = list_all (λ (op : Op Timed). is_ready_by l.time (Some op)) (drop l.op-index l.ops) ≡ list_all (λ (op : Op Timed). is_ready_by l.time (Some op)) l.ops
