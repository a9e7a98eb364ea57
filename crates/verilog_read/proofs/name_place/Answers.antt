use Rattle.verilog_syntax.specs.declared.module.Module.{Module}
use Rattle.verilog_read.proofs.NoText.{refused_no_text}
use Rattle.verilog_read.proofs.Texts.{refused_front}
use Rattle.verilog_read.proofs.name_place.Goals as goal

pub returns-in_err-module-clause-no_text : goal.returns-in_err-module-clause-no_text
returns-in_err-module-clause-no_text c =
    refused_no_text c.args.bytes.now c.from_residual.result
    (refused_front Module c.args.bytes.now c.from_residual.result c.in_err-module.field-0.0 c.from_residual.ensures.1 (λ y e. e) c.in_err-module.ensures.refused)
