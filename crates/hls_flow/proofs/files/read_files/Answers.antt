use Rattle.std.proofs.Common.{length, sym, ap, ◌∙◌, subst}
use Rattle.hls_base.specs.declared.inputs.Inputs.{Inputs}
use Rattle.c_tree.specs.View.{function_of}
use Rattle.rtl_core.specs.declared.design.Design.{Design}
use Rattle.rtl_core.specs.Netlist.{netlist_of}
use Rattle.rtl_core.specs.Interface.{Interface}
use Rattle.cycle_report.specs.PlainReport.{plain_of}
use Rattle.cosim_levels.specs.Pins.FunctionPins.{plain}
use Rattle.hls_flow.specs.Verdicts.{HasModule, IsBadModule, IsBadLine, IsStoppedAtFiles, at_module, at_line}
use Rattle.hls_flow.proofs.Stopped.{stopped_on}
use Rattle.hls_flow.proofs.ScalarCount.{scalar_count}
use Rattle.hls_flow.proofs.files.read_files.Goals as goal

pub returns-in_err-design-clause-refused : goal.returns-in_err-design-clause-refused
returns-in_err-design-clause-refused c =
    let given = c.args.given.now in
    let f = function_of c.args.function.now in
    stopped_on Design _ c.in_err-design.field-0.0 (IsBadModule given (plain c.in_ok-interface.interface)) (IsStoppedAtFiles given f) c.from_residual-in_err-design.ensures.1 (λ y e. e)
    (λ v bad. at_module (plain_of c.in_ok-report.report) c.in_ok-report.ensures.found (subst (λ i. IsBadModule given i v) c.in_ok-interface.ensures bad))
    c.in_err-design.ensures.refused

pub returns-in_err-inputs-clause-refused : goal.returns-in_err-inputs-clause-refused
returns-in_err-inputs-clause-refused c =
    let given = c.args.given.now in
    let f = function_of c.args.function.now in
    let d = netlist_of c.in_ok-design.design in
    stopped_on Inputs _ c.in_err-inputs.field-0.0 (IsBadLine given f) (IsStoppedAtFiles given f) c.from_residual-in_err-inputs.ensures.1 (λ y e. e)
    (λ v bad. at_line (plain_of c.in_ok-report.report) d c.in_ok-report.ensures.found (subst (λ i. HasModule given i d) c.in_ok-interface.ensures c.in_ok-design.ensures.found) bad)
    c.in_err-inputs.ensures.refused

pub returns-clause-scalars : goal.returns-clause-scalars
returns-clause-scalars c =
    scalar_count (function_of c.args.function.now).params c.in_ok-inputs.inputs.scalars c.in_ok-inputs.inputs.arrays c.in_ok-inputs.ensures.fit
    ∙ sym (ap (λ (i : Interface). length i.scalars) c.in_ok-interface.ensures)
