use Rattle.std.proofs.Common.{◌∙◌, ap, map, false}
use Rattle.std.specs.Option.{option_map}
use Rattle.c_tree.specs.View.{tree_of}
use Rattle.c_parser.specs.Functions.{param_with}
use Rattle.c_parser.proofs.CursorLemmas.Exits.{through}
use Rattle.c_parser.proofs.CursorLemmas.Readings.{step_found, step_never}
use Rattle.c_parser.proofs.FunctionForms.{named_param_step, unnamed_param_step}
use Rattle.c_parser.proofs.function.param_behind.Goals as goal

pub returns-in_err-unnamed_lengths-clause-absent : goal.returns-in_err-unnamed_lengths-clause-absent
returns-in_err-unnamed_lengths-clause-absent c = let o = c.in_default.ensures in
    through _ c.in_err-unnamed_lengths.field-0.0 _ _ c.from_residual.ensures.1 (λ y e. e) c.in_err-unnamed_lengths.ensures.absent
    (λ n. step_never _ _ (unnamed_param_step _ _ _ _ o.0 o.1) n)

pub returns-in_default-clause-found : goal.returns-in_default-clause-found
returns-in_default-clause-found c = let o = c.in_default.ensures in step_found _ _ _ _ _
    (c.make_param.ensures ∙ ap (λ y. param_with c.args.kind y c.args.start (map (option_map tree_of) c.in_ok-unnamed_lengths.unnamed_lengths.items) false) (c.new-unnamed.ensures ∙ c.new.ensures.items)) (unnamed_param_step _ _ _ _ o.0 o.1) c.in_ok-unnamed_lengths.ensures.found

pub returns-in_err-lengths-clause-absent : goal.returns-in_err-lengths-clause-absent
returns-in_err-lengths-clause-absent c =
    through _ c.in_err-lengths.field-0.0 _ _ c.from_residual-in_err-lengths.ensures.1 (λ y e. e) c.in_err-lengths.ensures.absent
    (λ n. step_never _ _ (named_param_step _ _ _ _ _ _ c.in-Some.ensures) n)

pub returns-clause-found : goal.returns-clause-found
returns-clause-found c = step_found _ _ _ _ _ (rw c.in_ok-name.ensures at c.make_param-2.ensures) (named_param_step _ _ _ _ _ _ c.in-Some.ensures) c.in_ok-lengths.ensures.found
