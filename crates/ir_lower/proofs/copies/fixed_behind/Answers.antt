use Rattle.std.proofs.Common.{◌∙◌, ap, ◌&&◌, map}
use Rattle.std.specs.Prelude.{if◌then◌else◌, not}
use Rattle.hls_base.specs.declared.number.VarId.{VarId}
use Rattle.ir_core.specs.Trees.{part_of, part_row}
use Rattle.passes.specs.Lowering.Outs.{held}
use Rattle.passes.specs.Lowering.Copies.{outs_set, parts_set, is_fixed}
use Rattle.ir_lower.specs.Copies.{is_in, fixed_of}
use Rattle.ir_lower.proofs.Copying.{outs_step, outs_all, either_way}
use Rattle.ir_lower.proofs.copies.fixed_behind.Goals as goal

pub loop-out-init : goal.loop-out-init
loop-out-init c = λ v.
    let stays = parts_set (part_row (map part_of c.args.later.now.items)) v && is_fixed (fixed_of c.args.fixed.now) (held c.args.outs.now v) in
    either_way (outs_set c.args.outs.now v) stays (is_in c.args.fixed.now.variables.items v) (is_in c.in_ok-now.now.items v) (c.in_ok-now.ensures v ∙ ap (λ l. is_in l v && not (outs_set c.args.outs.now v)) c.deref.ensures.value)

pub loop-out-preserved : goal.loop-out-preserved
loop-out-preserved c =
    let outs = c.args.outs.now in
    let stays = λ (v : VarId). parts_set (part_row (map part_of c.args.later.now.items)) v && is_fixed (fixed_of c.args.fixed.now) (held outs v) in
    outs_step stays (λ v. if outs_set outs v then stays v else is_in c.args.fixed.now.variables.items v) outs c.loop-out.now.items c.add_if.new.variables.items c.loop-out.out-index _ c.stays_fixed.result c.loop-out-test.true
    c.in_ok-add_if.ensures c.stays_fixed.ensures c.loop-out.invariant

pub returns : goal.returns
returns c =
    let outs = c.args.outs.now in
    let stays = λ (v : VarId). parts_set (part_row (map part_of c.args.later.now.items)) v && is_fixed (fixed_of c.args.fixed.now) (held outs v) in
    outs_all stays (λ v. if outs_set outs v then stays v else is_in c.args.fixed.now.variables.items v) outs c.loop-out.now.items c.loop-out.out-index c.loop-out-test.false c.loop-out.invariant
