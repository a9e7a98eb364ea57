use Rattle.std.proofs.Common.{◌≢◌, ◌≤◌, ◌∙◌, sym, ap, subst}
use Rattle.rtl_core.specs.Netlist.{netlist_of}
use Rattle.verilog_cycle.specs.declared.program.Step.TheVariants as step
use Rattle.verilog_cycle.specs.Running.{CanRun, step_value}
use Rattle.verilog_cycle.proofs.Steps.{instruction_runs, instruction_gives}
use Rattle.verilog_cycle.proofs.run.wire_value.Goals as goal

pub step_value-requires : goal.step_value-requires
step_value-requires c =
    let is = c.requires.is in
    let some : c.args.instruction.step ≢ step.Wide = c.in_default.not-Wide in
    record {
      some = subst (λ n. 1 ≤ n) (sym is.bits) c.requires.some;
      within = subst (λ n. n ≤ 64) (sym is.bits) (is.narrow some);
      runs = subst (λ z. CanRun z c.args.mems.now c.args.instruction.bits c.args.instruction.step) (sym c.requires.cells) (instruction_runs (netlist_of c.args.design.now) c.args.values.now c.args.mems.now c.requires.values c.requires.words c.args.wire.now c.args.instruction c.requires.fits is some);
    }

pub returns-in_default : goal.returns-in_default
returns-in_default c =
    let some : c.args.instruction.step ≢ step.Wide = c.in_default.not-Wide in
    c.from.ensures ∙ (c.step_value.ensures ∙ (ap (λ z. step_value z c.args.mems.now c.args.instruction.bits c.args.instruction.step) c.requires.cells ∙ instruction_gives (netlist_of c.args.design.now) c.args.values.now c.args.mems.now c.requires.values c.args.wire.now c.args.instruction c.requires.fits c.requires.is some))
