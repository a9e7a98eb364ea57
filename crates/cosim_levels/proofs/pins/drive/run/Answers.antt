use Rattle.std.proofs.Common.{◌≡◌, length, IfOk, sym, ap, ◌∙◌, subst}
use Rattle.rtl_core.specs.Interface.{done_of}
use Rattle.cosim_levels.specs.Pins.FunctionPins.{plain}
use Rattle.cosim_levels.specs.Pins.Host.{Driven, HasHostInputs, first_high}
use Rattle.cosim_levels.specs.Pins.ModuleRun.{all_write_rows, started, shown_when, run_when}
use Rattle.cosim_levels.proofs.PinsLemmas.Waits.{waited-arguments}
use Rattle.cosim_levels.proofs.PinsLemmas.Accesses.{netlist-clocked_all}
use Rattle.cosim_levels.proofs.PinsLemmas.PinCounts.{netlist-waited}
use Rattle.cosim_levels.proofs.pins.drive.run.Goals as goal

pub begin-requires-clause-host : goal.begin-requires-clause-host
begin-requires-clause-host c =
    subst HasHostInputs (sym (ap (λ (s : Driven). s.netlist) c.in-Some.ensures.after ∙ netlist-waited c.args.driver.now c.in-Some.field-0)) c.requires.host

pub begin-requires-clause-scalars : goal.begin-requires-clause-scalars
begin-requires-clause-scalars c =
    c.requires.scalars ∙ sym (ap (λ (s : Driven). s.arguments) c.in-Some.ensures.after ∙ waited-arguments c.args.driver.now c.in-Some.field-0)

pub begin-requires-clause-arguments : goal.begin-requires-clause-arguments
begin-requires-clause-arguments c =
    ap (λ (s : Driven). s.arguments) c.in-Some.ensures.after ∙ (waited-arguments c.args.driver.now c.in-Some.field-0 ∙ c.requires.arguments)

pub finish-requires : goal.finish-requires
finish-requires c =
    let s = c.first_ready.new.driver in
    let i = plain c.args.interface.now in
    let rows = all_write_rows (length i.scalars) 0 i.arrays c.args.inputs.now.arrays in
    let kept = ap (λ (x : Driven). x.netlist) c.in_ok-begin-in-Some.ensures ∙ netlist-clocked_all s rows in
    let before = ap (λ (x : Driven). x.netlist) c.in-Some.ensures.after ∙ netlist-waited c.args.driver.now c.in-Some.field-0 in
    subst HasHostInputs (sym (kept ∙ before)) c.requires.host

pub returns-in_ok-begin-in-Some : goal.returns-in_ok-begin-in-Some
returns-in_ok-begin-in-Some c =
    let i = plain c.args.interface.now in
    let scalars = c.args.inputs.now.scalars in
    let arrays = c.args.inputs.now.arrays in
    let begun = c.in_ok-begin-in-Some.ensures ∙ ap (λ (s : Driven). started i s scalars arrays) c.in-Some.ensures.after in
    let same = ap (λ (s : Driven). shown_when i s (first_high done_of s c.args.cycles)) begun ∙ ap (run_when i c.args.driver.now scalars arrays c.args.cycles) c.in-Some.ensures.cycle in
    subst (λ x. IfOk c.finish.result (λ s. s ≡ x)) same c.finish.ensures
