use Rattle.verilog_syntax.specs.declared.module.Module.{Module}
use Rattle.verilog_syntax.specs.ModuleViews.{module_view}
use Rattle.verilog_read.proofs.NoText.{refused_no_text}
use Rattle.verilog_read.proofs.OneFault.{refused_once}
use Rattle.verilog_read.proofs.Texts.{read_within, read_text, read_only, read_refused, refused_front}
use Rattle.verilog_read.proofs.read.Goals as goal

pub returns : goal.returns
returns c =
    let bytes = c.args.bytes.now in
    let m = module_view c.in_ok-module.module in
    let small = c.in_ok-module.ensures.within in
    let said = c.in_ok-module.ensures.says in
    let first = read_refused bytes m c.design_of.result small said c.design_of.ensures.refused in
    record {
      within = read_within bytes c.design_of.result small;
      text = read_text bytes m c.design_of.result small said c.design_of.ensures.found;
      only = read_only bytes m c.design_of.result small said c.design_of.ensures.found;
      refused = first;
      once = refused_once bytes c.design_of.result first;
      no_text = refused_no_text bytes c.design_of.result first;
    }

pub returns-in_err-module-clause-refused : goal.returns-in_err-module-clause-refused
returns-in_err-module-clause-refused c = refused_front Module c.args.bytes.now c.from_residual.result c.in_err-module.field-0.0 c.from_residual.ensures.1 (λ y e. e) c.in_err-module.ensures.refused

pub returns-in_err-module-clause-once : goal.returns-in_err-module-clause-once
returns-in_err-module-clause-once c =
    refused_once c.args.bytes.now c.from_residual.result
    (refused_front Module c.args.bytes.now c.from_residual.result c.in_err-module.field-0.0 c.from_residual.ensures.1 (λ y e. e) c.in_err-module.ensures.refused)

pub returns-in_err-module-clause-no_text : goal.returns-in_err-module-clause-no_text
returns-in_err-module-clause-no_text c =
    refused_no_text c.args.bytes.now c.from_residual.result
    (refused_front Module c.args.bytes.now c.from_residual.result c.in_err-module.field-0.0 c.from_residual.ensures.1 (λ y e. e) c.in_err-module.ensures.refused)
