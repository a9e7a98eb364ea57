use Rattle.std.proofs.Common.{◌≡◌, ◌&&◌, ◌||◌, drop, map}
use Rattle.std.specs.Prelude.{if◌then◌else◌}
use Rattle.hls_base.specs.declared.number.VarId.{VarId}
use Rattle.ir_core.specs.Trees.{part_of, part_row}
use Rattle.passes.specs.Lowering.Outs.{held}
use Rattle.passes.specs.Lowering.Copies.{outs_set, parts_set, is_fixed}
use Rattle.ir_lower.specs.Copies.{is_in, fixed_of}
use Rattle.ir_lower.proofs.copies.fixed_behind.Given as goal

abbrev pub invariant-loop-out : goal.invariant-loop-out
invariant-loop-out l =
    (v : VarId) → (is_in l.now.items v || (outs_set (drop l.out-index l.outs) v && (parts_set (part_row (map part_of l.later.items)) v && is_fixed (fixed_of l.fixed) (held l.outs v))))
    ≡ (if outs_set l.outs v then parts_set (part_row (map part_of l.later.items)) v && is_fixed (fixed_of l.fixed) (held l.outs v) else is_in l.fixed.variables.items v)
