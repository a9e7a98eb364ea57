use Rattle.std.proofs.Common.{◌∙◌, map, ap, subst}
use Rattle.ir_core.specs.Bodies.{op_of}
use Rattle.op_chain.specs.Subscripts.{handed, outs_hand}
use Rattle.op_chain.specs.Views.{ShowsResults, ShowsVariables, marked_results, marked_variables}
use Rattle.op_chain.proofs.Shown.{outs_shown, outs_shown_too}
use Rattle.op_chain.proofs.subscripts.hand_all.Goals as goal

pub returns-clause-results : goal.returns-clause-results
returns-clause-results c = λ none.
    let body = c.args.body.now in
    let outs = outs_hand c.args.reaching.now body.outs.items in
    let first = c.hand_outs.ensures.results ∙ ap (λ l. marked_results c.args.results.now (outs_hand c.args.reaching.now l)) c.as_slice.ensures.value in
    let before = outs_shown c.args.results.now c.hand_outs.new.results outs first none in
    subst (λ l. ShowsResults c.hand_ops.new.results (handed 0 (map op_of l) outs)) c.as_slice-2.ensures.value (c.hand_ops.ensures.results outs before)

pub returns-clause-variables : goal.returns-clause-variables
returns-clause-variables c = λ before none also.
    let body = c.args.body.now in
    let outs = outs_hand c.args.reaching.now body.outs.items in
    let first = c.hand_outs.ensures.results ∙ ap (λ l. marked_results c.args.results.now (outs_hand c.args.reaching.now l)) c.as_slice.ensures.value in
    let second = c.hand_outs.ensures.variables ∙ ap (λ l. marked_variables c.args.variables.now (outs_hand c.args.reaching.now l)) c.as_slice.ensures.value in
    let results = outs_shown c.args.results.now c.hand_outs.new.results outs first none in
    let variables = outs_shown_too c.args.variables.now c.hand_outs.new.variables before outs second also in
    subst (λ l. ShowsVariables c.hand_ops.new.variables before (handed 0 (map op_of l) outs)) c.as_slice-2.ensures.value (c.hand_ops.ensures.variables outs before results variables)
