use Rattle.std.proofs.Common.{◌≡◌, ◌∙◌, ◌+◌, ◌∷◌, [], length, subst, sym, ap, length-append, arith}
use Rattle.rtl_logic.specs.Making.{circuit}
use Rattle.circuit_units.specs.Memories.Places.{MakesTablePorts}
use Rattle.circuit_units.proofs.MemoriesLemmas.Arrays.{ready_later}
use Rattle.circuit_units.proofs.MemoriesLemmas.Steps.{place_at, no_table_ports, table_ports_more}
use Rattle.circuit_units.proofs.memories.tables.table_ports.Goals as goal

pub loop-port-init : goal.loop-port-init
loop-port-init c = record {
  made = λ p names elements ready place inside table words.
      subst (MakesTablePorts p names (circuit c.args.logic.now) (circuit c.args.logic.now) c.args.first.array.0) (sym c.new-wires.ensures.items)
      (no_table_ports p names (circuit c.args.logic.now) c.args.first.array.0 ready.begun);
  count = ap length c.new-wires.ensures.items;
}

pub loop-port-preserved : goal.loop-port-preserved
loop-port-preserved c = record {
  made = λ p names elements ready place inside table words.
      let d = circuit c.args.logic.now in
      let e = circuit c.loop-port.logic in
      let f = circuit c.table_port.new.logic in
      let a = c.args.first.array.0 in
      let n = c.loop-port.port in
      let h : MakesTablePorts p names d e a c.loop-port.wires.items = c.loop-port.invariant.made p names elements ready place inside table words in
      let one = c.in_ok-table_port.ensures p names elements (ready_later p names c.args.of.now c.args.groups.now d e h.sets.extends h.sets.begun ready) (place_at p c.args.first n place) (inside n) table words in
      subst (MakesTablePorts p names d f a) (sym c.in_ok-push.ensures.items)
      (table_ports_more p names d e f a n c.loop-port.wires.items c.in_ok-table_port.field-0 (sym c.loop-port.invariant.count) h one);
  count = ap length c.in_ok-push.ensures.items ∙ (length-append c.loop-port.wires.items (c.in_ok-table_port.field-0 ∷ []) ∙ ap (λ k. k + 1) c.loop-port.invariant.count);
}

pub returns-clause-ports : goal.returns-clause-ports
returns-clause-ports c = λ p names elements ready place inside table words. c.loop-port.invariant.made p names elements ready place inside table words

pub returns-clause-count : goal.returns-clause-count
returns-clause-count c = λ p names ready. c.loop-port.invariant.count ∙ (let e : c.loop-port.port ≡ c.ports_of-port-end.result = omega arith in e ∙ c.ports_of-port-end.ensures p names ready.context)
