use Rattle.std.proofs.Common.{◌≡◌, ◌∙◌, ◌+◌, ◌∷◌, [], length, subst, sym, ap, length-append, arith}
use Rattle.rtl_logic.specs.Making.{circuit}
use Rattle.rtl_logic.proofs.Making.{appended}
use Rattle.circuit_units.specs.Memories.Places.{MakesPorts}
use Rattle.circuit_units.proofs.MemoriesLemmas.Arrays.{ready_later, access_later}
use Rattle.circuit_units.proofs.MemoriesLemmas.Steps.{place_at, no_ports, ports_more}
use Rattle.circuit_units.proofs.memories.ports.make_ports.Goals as goal

pub loop-port-init : goal.loop-port-init
loop-port-init c = record {
  made = λ p names ready place access.
      subst (MakesPorts p names (circuit c.args.logic.now) (circuit c.args.logic.now) c.args.first.array.0) (sym c.new-ports.ensures.items) (no_ports p names (circuit c.args.logic.now) c.args.first.array.0 ready.begun);
  count = ap length c.new-ports.ensures.items;
}

pub loop-port-preserved : goal.loop-port-preserved
loop-port-preserved c = record {
  made = λ p names ready place access.
      let d = circuit c.args.logic.now in
      let e = circuit c.loop-port.logic in
      let f = circuit c.make_port.new.logic in
      let a = c.args.first.array.0 in
      let n = c.loop-port.port in
      let h : MakesPorts p names d e a c.loop-port.ports.items = c.loop-port.invariant.made p names ready place access in
      let longer = appended d e h.appends in
      let one = c.in_ok-make_port.ensures p names (ready_later p names c.args.of.now c.args.groups.now d e longer h.begun ready) (place_at p c.args.first n place)
      (access_later p names d e a n c.access_at.result longer (c.access_at.ensures p names d a access)) in
      subst (MakesPorts p names d f a) (sym c.in_ok-push.ensures.items) (ports_more p names d e f a n c.loop-port.ports.items c.in_ok-make_port.field-0 (sym c.loop-port.invariant.count) h one);
  count = ap length c.in_ok-push.ensures.items ∙ (length-append c.loop-port.ports.items (c.in_ok-make_port.field-0 ∷ []) ∙ ap (λ k. k + 1) c.loop-port.invariant.count);
}

pub returns-clause-ports : goal.returns-clause-ports
returns-clause-ports c = λ p names ready place access. c.loop-port.invariant.made p names ready place access

pub returns-clause-numbered : goal.returns-clause-numbered
returns-clause-numbered c = omega (arith, c.loop-port.invariant.count)

pub returns-clause-count : goal.returns-clause-count
returns-clause-count c = λ p names ready. c.loop-port.invariant.count ∙ (let e : c.loop-port.port ≡ c.ports_of-port-end.result = omega arith in e ∙ c.ports_of-port-end.ensures p names ready.context)
