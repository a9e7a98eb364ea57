use Rattle.std.proofs.Common.{◌≡◌, ◌∙◌, Some, map, slice_get, ap, sym, subst}
use Rattle.c_tree.specs.Tree as tree
use Rattle.c_tree.specs.View.{program_of, item_of, function_of}
use Rattle.c_meaning.specs.declared.checks.Checked.{Checked}
use Rattle.checked_source.specs.SourceFaults.{IsSourceFault}
use Rattle.c_elaborate.specs.Programs.{program_elaborated}
use Rattle.c_expand.specs.Expansion.{IsOverweight}
use Rattle.pieces.specs.declared.expanded.Expanded.{Expanded}
use Rattle.stage_runs.specs.Agreement as a
use Rattle.pieces.specs.Program.{ExpandedTree}
use Rattle.cosim_levels.specs.RunFile.{reading_of}
use Rattle.stage_runs.specs.Agreement.{IsRefusedAs, AreStageRuns}
use Rattle.stage_runs.specs.Whole.{HasWholeStages}
use Rattle.stage_runs.proofs.WholeStages.{faultless_of}
use Rattle.stage_runs.proofs.Refusing.{refused_on}
use Rattle.stage_runs.proofs.runs.stage_runs.Goals as goal

pub returns-in_err-checked-clause-refused : goal.returns-in_err-checked-clause-refused
returns-in_err-checked-clause-refused c =
    let given = c.args.given.now in
    refused_on Checked _ c.in_err-checked.field-0.0 (IsSourceFault given.source given.top) (IsRefusedAs given.source given.top) c.from_residual.ensures.1 (λ y e. e)
    (λ r fault. a.of_source fault) c.in_err-checked.ensures.refused

pub returns-in_err-expanded-clause-refused : goal.returns-in_err-expanded-clause-refused
returns-in_err-expanded-clause-refused c =
    let given = c.args.given.now in
    let checked = c.in_ok-checked.checked in
    let found = c.in_ok-checked.ensures in
    refused_on Expanded _ c.in_err-expanded.field-0.0 (IsOverweight (program_elaborated (program_of checked.program) checked.top)) (IsRefusedAs given.source given.top)
    c.from_residual-in_err-expanded.ensures.1 (λ y e. e)
    (λ r heavy. a.too_large (program_of checked.program) checked.top found.found found.faultless found.top heavy) c.in_err-expanded.ensures.refused

pub returns-clause-runs : goal.returns-clause-runs
returns-clause-runs c =
    let given = c.args.given.now in
    let checked = c.in_ok-checked.checked in
    let program = program_of checked.program in
    let found = c.in_ok-checked.ensures in
    let function = function_of c.in-Some.function.now in
    let inputs = c.in_ok-inputs.inputs in
    let whole = c.sources_have_whole_stages.ensures given.source program checked.top given.top
    (faultless_of given.source given.top program checked.top found.found found.top found.faultless) in
    record {
      program = program;
      index = checked.top;
      function = function;
      values = inputs;
      is = found.found;
      faultless = found.faultless;
      named = found.top;
      top_is = subst (λ items. slice_get (map item_of items) checked.top ≡ Some (tree.function function)) c.deref.ensures.value c.in-Some.ensures;
      read = ap (reading_of function.params) (sym c.items.ensures) ∙ c.in_ok-inputs.ensures.read;
      ends = c.in_ok-ended.ensures.ended;
      names = c.in_ok-stages.ensures.names;
      stages = subst (λ (x : ExpandedTree). HasWholeStages x → AreStageRuns x given.plain inputs c.in_ok-ended.ended c.in_ok-stages.stages.items)
          c.in_ok-expanded.ensures.made c.in_ok-stages.ensures.runs whole;
    }
