use Rattle.std.proofs.Common.{◌≡◌, ◌∙◌, ◌==◌, ◌<◌, ◌^◌, ℕ, if◌then◌else◌, List, length, get_or, sym, ap, subst}
use Rattle.std.proofs.lemmas.Grind.{get_or_default_zero}
use Rattle.std.proofs.lemmas.List.{length-set}
use Rattle.rtl_core.specs.ClockStep.{value_of}
use Rattle.verilog_cycle.specs.Inside.{IsThereIn, value_in}
use Rattle.verilog_cycle.proofs.Passes.{moved, register_written, registers_written, no_register}
use Rattle.verilog_cycle.proofs.values.Values.find_next.Goals as goal

pub next_value-requires : goal.next_value-requires
next_value-requires c =
    let i = c.loop-k.invariant in
    let old = c.args.self.now in
    let now = c.loop-k.self in
    let reg = get_or c.args.regs.now c.loop-k.k no_register in
    record {
      enable = moved (λ p r w. IsThereIn p r w reg.enable) old.pins.items now.pins.items old.regs.items now.regs.items old.wires.items now.wires.items i.pins i.regs i.wires
          (c.requires.enables c.loop-k.k no_register c.loop-k-test.true);
      next = moved (λ p r w. IsThereIn p r w reg.next × (value_of p r w reg.next < 2 ^ 64)) old.pins.items now.pins.items old.regs.items now.regs.items old.wires.items now.wires.items i.pins i.regs i.wires
          (c.requires.words c.loop-k.k no_register c.loop-k-test.true);
    }

pub loop-k-preserved : goal.loop-k-preserved
loop-k-preserved c =
    let i = c.loop-k.invariant in
    let old = c.args.self.now in
    let now = c.loop-k.self in
    let reg = get_or c.args.regs.now c.loop-k.k no_register in
    let inside : c.loop-k.k < length now.regs.items = subst (λ (l : List ℕ). c.loop-k.k < length l) (sym i.regs) (subst (λ n. c.loop-k.k < n) (sym c.requires.held) c.loop-k-test.true) in
    let held : c.index.result.now ≡ get_or now.regs.items c.loop-k.k 0 = c.index.ensures ∙ get_or_default_zero now.regs.items c.loop-k.k c.index.result.now inside in
    let found = c.next_value.ensures ∙ ap (λ x. if value_in now reg.enable == 1 then value_in now reg.next else x) held in
    let is = moved (λ p r w. c.next_value.result ≡ (if value_of p r w reg.enable == 1 then value_of p r w reg.next else get_or r c.loop-k.k 0))
    now.pins.items old.pins.items now.regs.items old.regs.items now.wires.items old.wires.items (sym i.pins) (sym i.regs) (sym i.wires) found in
    record {
      whole = register_written (value_in old) _ c.args.regs.now old.regs.items now.next.items c.loop-k.k c.next_value.result no_register c.loop-k-test.true c.requires.held i.room is i.whole;
      room = length-set now.next.items c.loop-k.k c.next_value.result ∙ i.room;
      pins = i.pins;
      regs = i.regs;
      wires = i.wires;
    }

pub returns : goal.returns
returns c =
    let i = c.loop-k.invariant in
    record {
      pins = i.pins;
      regs = i.regs;
      next = registers_written (value_in c.args.self.now) _ c.args.regs.now c.args.self.now.regs.items c.loop-k.self.next.items c.loop-k.k c.loop-k-test.false c.loop-k.auto.k-end i.room i.whole;
      wires = i.wires;
    }
