use Rattle.std.proofs.Common.{◌∙◌, [], ◌∷◌, ap, sym, map}
use Rattle.std.proofs.lemmas.List.{map-append}
use Rattle.ir_core.specs.Bodies.{op_of}
use Rattle.passes.specs.Conversion.Joining.{joined_op, joined_ops}
use Rattle.if_convert.specs.Entries.{outs_of}
use Rattle.if_convert.specs.Views.{joined_of}
use Rattle.if_convert.proofs.Adding.{joined_more}
use Rattle.if_convert.proofs.joining.Joined.join_ops.Goals as goal

pub loop-op-preserved : goal.loop-op-preserved
loop-op-preserved c =
    let widths = c.args.behind.now.variables.now in
    let outs = outs_of c.args.behind.now.sets.now in
    let test = c.args.behind.now.test in
    let start = joined_of c.args.self.now in
    c.in_ok-join_op.ensures ∙ ap (λ s. joined_op widths outs test s (op_of c.in-Some.op)) c.loop-op.invariant
    ∙ sym (joined_more widths outs test start (map op_of c.loop-op.yielded) (op_of c.in-Some.op))
    ∙ ap (joined_ops widths outs test start) (sym (map-append op_of c.loop-op.yielded (c.in-Some.op ∷ [])))
