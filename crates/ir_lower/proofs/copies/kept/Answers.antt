use Rattle.std.proofs.Common.{ap, ◌&&◌}
use Rattle.std.specs.Prelude.{not}
use Rattle.hls_base.specs.declared.number.VarId.{VarId}
use Rattle.passes.specs.Lowering.Copies.{outs_set}
use Rattle.ir_lower.specs.Copies.{is_in}
use Rattle.ir_lower.proofs.Copying.{kept_step, kept_all}
use Rattle.ir_lower.proofs.copies.kept.Goals as goal

pub loop-variable-preserved : goal.loop-variable-preserved
loop-variable-preserved c =
    let free = λ (v : VarId). not (outs_set c.args.outs.now v) in
    kept_step free (λ v. is_in c.args.known.now v && free v) c.args.known.now c.loop-variable.now.items c.add_if.new.variables.items c.loop-variable.variable-index _ (not c.outs_set.result) c.loop-variable-test.true
    c.in_ok-add_if.ensures (ap not c.outs_set.ensures) c.loop-variable.invariant

pub returns : goal.returns
returns c =
    let free = λ (v : VarId). not (outs_set c.args.outs.now v) in
    kept_all free (λ v. is_in c.args.known.now v && free v) c.args.known.now c.loop-variable.now.items c.loop-variable.variable-index c.loop-variable-test.false c.loop-variable.invariant
