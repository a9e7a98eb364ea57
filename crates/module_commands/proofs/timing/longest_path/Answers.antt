use Rattle.std.proofs.Common.{◌≤◌, length, refl}
use Rattle.rtl_core.specs.declared.design.Design.{Design}
use Rattle.rtl_core.specs.Netlist.{Netlist, netlist_of}
use Rattle.rtl_core.specs.ModuleText.{IsModuleText}
use Rattle.verilog_syntax.specs.TextSyntax.{limit}
use Rattle.module_commands.specs.Outcomes.{IsTiming, IsRead}
use Rattle.module_commands.proofs.Settling.{passed_on}
use Rattle.module_commands.proofs.timing.longest_path.Goals as goal

pub returns-in_err-design-clause-complete : goal.returns-in_err-design-clause-complete
returns-in_err-design-clause-complete c =
    let text = c.args.text.now in
    passed_on Design c.from_residual.result c.in_err-design.field-0.0 (λ r. length text ≤ limit → (d : Netlist) → IsModuleText text d → ⊥) (λ r. IsRead text → ⊥) c.from_residual.ensures.1 (λ y e. e)
    (λ r none read. none read.1.within read.0 read.1.is) c.in_err-design.ensures.no_text

pub returns-clause-done : goal.returns-clause-done
returns-clause-done c =
    let design = c.in_ok-design.ensures in
    let path = c.in_ok-path.path in
    IsTiming.done (netlist_of c.in_ok-design.design) (record { within = design.within; is = design.text }) (record {
      delay = path.delay;
      wires = path.wires.items;
      longest = c.in_ok-path.ensures;
      status = refl;
      line = c.in_ok-path_line.ensures;
      written = refl;
    })
