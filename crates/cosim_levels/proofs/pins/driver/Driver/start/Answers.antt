use Rattle.std.proofs.Common.{◌≡◌, ℕ, List, length, drop, sym, ap, ◌∙◌, rules}
use Rattle.std.proofs.lemmas.List.{take_at}
use Rattle.rtl_core.specs.Netlist.{Netlist}
use Rattle.cosim_levels.specs.Pins.Host.{Driven, clocked, start_row}
use Rattle.cosim_levels.proofs.pins.driver.Driver.start.Goals as goal

pub invariant_of-self : goal.invariant_of-self
invariant_of-self c =
    let inside = c.self.inside in
    let pins_count : length c.clock_start.new.pins ≡ inside.pins.len = search rules in
    let outs_count : length c.clock_start.new.outs ≡ inside.outs.len = search rules in
    let pins_kept : length c.clock_start.new.pins ≡ length inside.pins.items = search rules in
    let outs_kept : length c.clock_start.new.outs ≡ length inside.outs.items = search rules in
    let pins = take_at c.clock_start.new.pins (drop (length c.clock_start.new.pins) inside.pins.items) inside.pins.len pins_count in
    let outs = take_at c.clock_start.new.outs (drop (length c.clock_start.new.outs) inside.outs.items) inside.outs.len outs_count in (
      ap length pins ∙ (pins_kept ∙ c.self.invariant.0),
      ap (λ (d : Netlist). length d.inputs) c.clock_start.ensures.netlist ∙ c.self.invariant.1,
      ap length outs ∙ (outs_kept ∙ (c.self.invariant.2 ∙ sym (ap (λ (d : Netlist). length d.outputs) c.clock_start.ensures.netlist))),
    )

pub returns : goal.returns
returns c =
    let inside = c.self.inside in
    let outs_count : length c.clock_start.new.outs ≡ inside.outs.len = search rules in
    let outs = take_at c.clock_start.new.outs (drop (length c.clock_start.new.outs) inside.outs.items) inside.outs.len outs_count in
    let view : Driven = record { netlist = inside.sim.netlist; arguments = inside.arguments; state = inside.sim.state; outs = inside.outs.items } in
    let made : List ℕ → Driven = λ o. record { netlist = c.clock_start.new.sim.netlist; arguments = inside.arguments; state = c.clock_start.new.sim.state; outs = o } in
    ap made outs ∙ (sym (c.clock_start.ensures.cycle inside.arguments) ∙ ap (λ (s : Driven). clocked s (start_row c.args.arguments.now)) c.self.view_is)
