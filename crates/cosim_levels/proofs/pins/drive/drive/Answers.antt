use Rattle.std.proofs.Common.{◌≡◌, ℕ, ◌+◌, length, replicate, IfOk, sym, ap, ◌∙◌, subst, rules}
use Rattle.rtl_core.specs.Netlist.{netlist_of}
use Rattle.rtl_core.specs.Interface.{ready_of}
use Rattle.verilog_cycle.specs.Simulation.{powered_up, contents_count}
use Rattle.cosim_levels.specs.Pins.FunctionPins.{plain}
use Rattle.cosim_levels.specs.Pins.Host.{Driven, HasHostInputs, clocked, reset_row, first_high}
use Rattle.cosim_levels.specs.Pins.ModuleRun.{run_when}
use Rattle.cosim_levels.proofs.PinsLemmas.PinCounts.{inputs_count, host_inputs}
use Rattle.cosim_levels.proofs.pins.drive.drive.Goals as goal

pub new-requires-clause-inputs : goal.new-requires-clause-inputs
new-requires-clause-inputs c =
    let count : c.len.result ≡ length c.args.interface.now.scalars.items = search rules in
    inputs_count (netlist_of c.args.design) (plain c.args.interface.now) c.requires.pins ∙ ap (λ n. 7 + n) (sym count)

pub run-requires-clause-host : goal.run-requires-clause-host
run-requires-clause-host c =
    let kept = ap (λ (s : Driven). s.netlist) c.reset.ensures ∙ ap (λ (s : Driven). s.netlist) c.in_ok-driver.ensures in
    subst HasHostInputs (sym kept) (host_inputs (netlist_of c.args.design) (plain c.args.interface.now) c.requires.pins)

pub returns : goal.returns
returns c =
    let d = netlist_of c.args.design in
    let i = plain c.args.interface.now in
    let count : c.len.result ≡ length c.args.interface.now.scalars.items = search rules in
    let powered : ℕ → Driven = λ n. record {
      netlist = d;
      arguments = n;
      state = powered_up d (replicate (contents_count d) 0);
      outs = replicate (length c.args.design.outputs.items) 0;
    } in
    let begun = c.reset.ensures ∙ (ap (λ (s : Driven). clocked s (reset_row s.arguments)) c.in_ok-driver.ensures ∙ ap (λ n. clocked (powered n) (reset_row n)) count) in
    subst (λ (x : Driven). IfOk c.run.result (λ s. s ≡ run_when i x c.args.inputs.now.scalars c.args.inputs.now.arrays c.args.cycles (first_high ready_of x c.args.cycles))) begun c.run.ensures
