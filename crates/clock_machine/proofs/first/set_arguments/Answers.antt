use Rattle.std.proofs.Common.{◌+◌, length, drop, sym, ap, ◌∙◌, subst}
use Rattle.ir_core.specs.FirstContents.{with_arguments}
use Rattle.clock_machine.specs.Lines.Registers.{held}
use Rattle.clock_machine.specs.Starts.{ParametersThere}
use Rattle.clock_machine.proofs.FirstWords.{arguments_more, arguments_past}
use Rattle.clock_machine.proofs.first.set_arguments.Goals as goal
use Rattle.clock_machine.proofs.first.set_arguments.Goals.{then-index-scalars, else-index-scalars}

pub loop-index-preserved : goal.loop-index-preserved
loop-index-preserved c = λ h.
    let params = c.args.params.now in
    let scalars = c.args.scalars.now in
    let i = c.loop-index.index in
    let there : ParametersThere params (length c.loop-index.variables) = subst (ParametersThere params) (sym c.loop-index.auto.variables) h in
    elim c.if-index-scalars.branch [
      | then-index-scalars w ↦ arguments_more params scalars i _ c.loop-index.variables c.if-index-scalars.variables there c.loop-index-test.true w.if-index-scalars.true (w.variables-is ∙ w.set_word.ensures) ∙ c.loop-index.invariant h
      | else-index-scalars w ↦
          ap (λ l. with_arguments (drop (i + 1) params) (drop (i + 1) scalars) (held l)) w.variables-is ∙ arguments_past params scalars i (held c.loop-index.variables) w.if-index-scalars.false ∙ c.loop-index.invariant h
    ]
