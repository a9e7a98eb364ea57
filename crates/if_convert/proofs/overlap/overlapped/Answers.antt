use Rattle.std.proofs.Common.{◌∙◌, ap, ap₂}
use Rattle.ir_core.specs.Trees.{block_of, overlapped}
use Rattle.passes.specs.Conversion.Merging.{joined}
use Rattle.passes.specs.Conversion.Overlapping.{iteration}
use Rattle.if_convert.proofs.Rows.{overlapped_out}
use Rattle.if_convert.proofs.overlap.overlapped.Goals as goal

pub returns : goal.returns
returns c =
    let widths = c.args.scope.variables.now in
    overlapped_out c.in_ok-point.point c.in_ok-body.body
    ∙ ap₂ overlapped c.in_ok-point.ensures
    (c.in_ok-body.ensures ∙ ap (iteration c.args.test) (c.in_ok-open-2.ensures ∙ ap (λ b. joined widths b (block_of c.args.body)) c.in_ok-open.ensures))
