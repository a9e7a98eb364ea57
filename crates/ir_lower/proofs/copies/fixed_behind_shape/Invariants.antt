use Rattle.std.proofs.Common.{◌≡◌, ◌&&◌, ◌||◌, drop}
use Rattle.std.specs.Prelude.{not}
use Rattle.hls_base.specs.declared.number.VarId.{VarId}
use Rattle.ir_core.specs.Trees.{shape_of}
use Rattle.passes.specs.Lowering.Copies.{shape_sets}
use Rattle.ir_lower.specs.Copies.{is_in}
use Rattle.ir_lower.proofs.copies.fixed_behind_shape.Given as goal

abbrev pub invariant-loop-variable : goal.invariant-loop-variable
invariant-loop-variable l =
    (v : VarId) → (is_in l.now.items v || (is_in (drop l.variable-index l.known) v && not (shape_sets (shape_of l.shape) v))) ≡ (is_in l.known v && not (shape_sets (shape_of l.shape) v))
