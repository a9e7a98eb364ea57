use Rattle.std.proofs.Common.{◌≡◌, ℕ, ◌-◌, List, ◌∷◌, length, drop, replicate, sym, ap, ◌∙◌, arith, rules}
use Rattle.std.proofs.lemmas.List.{take_at}
use Rattle.rtl_core.specs.Netlist.{Netlist}
use Rattle.cosim_levels.specs.Pins.Host.{Driven, clocked}
use Rattle.cosim_levels.proofs.pins.driver.Driver.take_cycle.Goals as goal

pub invariant_of-self : goal.invariant_of-self
invariant_of-self c =
    let inside = c.self.inside in
    let pins_count : length c.clock_row.new.pins ≡ inside.pins.len = search rules in
    let outs_count : length c.clock_row.new.outs ≡ inside.outs.len = search rules in
    let pins_kept : length c.clock_row.new.pins ≡ length inside.pins.items = search rules in
    let outs_kept : length c.clock_row.new.outs ≡ length inside.outs.items = search rules in
    let pins = take_at c.clock_row.new.pins (drop (length c.clock_row.new.pins) inside.pins.items) inside.pins.len pins_count in
    let outs = take_at c.clock_row.new.outs (drop (length c.clock_row.new.outs) inside.outs.items) inside.outs.len outs_count in (
      ap length pins ∙ (pins_kept ∙ c.self.invariant.0),
      ap (λ (d : Netlist). length d.inputs) c.clock_row.ensures.netlist ∙ c.self.invariant.1,
      ap length outs ∙ (outs_kept ∙ (c.self.invariant.2 ∙ sym (ap (λ (d : Netlist). length d.outputs) c.clock_row.ensures.netlist))),
    )

pub returns : goal.returns
returns c =
    let inside = c.self.inside in
    let outs_count : length c.clock_row.new.outs ≡ inside.outs.len = search rules in
    let outs = take_at c.clock_row.new.outs (drop (length c.clock_row.new.outs) inside.outs.items) inside.outs.len outs_count in
    let view : Driven = record { netlist = inside.sim.netlist; arguments = inside.arguments; state = inside.sim.state; outs = inside.outs.items } in
    let made : List ℕ → Driven = λ o. record { netlist = c.clock_row.new.sim.netlist; arguments = inside.arguments; state = c.clock_row.new.sim.state; outs = o } in
    let row : ℕ → List ℕ = λ n. c.args.row.reset ∷ c.args.row.start ∷ c.args.row.enable ∷ c.args.row.write ∷ c.args.row.select ∷ c.args.row.address ∷ c.args.row.data ∷ replicate n 0 in
    let count : length c.deref_mut.result.now - 7 ≡ inside.arguments = omega (arith, ap length c.deref_mut.ensures.value, c.self.invariant.0) in
    ap made outs ∙ (sym (c.clock_row.ensures.cycle inside.arguments) ∙ (ap (λ n. clocked view (row n)) count ∙ ap (λ (s : Driven). clocked s (row s.arguments)) c.self.view_is))
