use Rattle.std.proofs.Common.{◌∙◌, ap, sym, Option}
use Rattle.std.specs.Option.{option_map}
use Rattle.std.proofs.lemmas.Result.{IfOk-weaker}
use Rattle.ir_core.specs.declared.body.Operand.{Operand}
use Rattle.ir_core.specs.Trees.{sequence_of, side_of}
use Rattle.passes.specs.Conversion.Overlapping.{overlapping, loop_by}
use Rattle.if_convert.proofs.overlap.converted_loop.Goals as goal

pub returns-in-Some : goal.returns-in-Some
returns-in-Some c =
    let widths = c.args.scope.variables.now in
    IfOk-weaker c.overlapped.result _ _
    (λ shape e. e ∙ (λ i. overlapping widths c.in-Some.test (c.into_first.ensures i) (c.into_first-in-Some.ensures i))
    ∙ sym (ap (λ (x : Option Operand). loop_by widths x c.args.parts.post (sequence_of c.args.parts.test) (sequence_of c.args.parts.body) (side_of (option_map sequence_of c.args.parts.step))) (sym c.chosen_test.ensures ∙ c.in-Some.is)))
    c.overlapped.ensures
