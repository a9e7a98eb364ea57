use Rattle.std.proofs.Common.{◌≡◌, ◌&&◌, ◌||◌, drop}
use Rattle.std.specs.Prelude.{not}
use Rattle.hls_base.specs.declared.number.VarId.{VarId}
use Rattle.passes.specs.Lowering.Copies.{outs_set}
use Rattle.ir_lower.specs.Copies.{is_in}
use Rattle.ir_lower.proofs.copies.kept.Given as goal

abbrev pub invariant-loop-variable : goal.invariant-loop-variable
invariant-loop-variable l =
    (v : VarId) → (is_in l.now.items v || (is_in (drop l.variable-index l.known) v && not (outs_set l.outs v))) ≡ (is_in l.known v && not (outs_set l.outs v))
