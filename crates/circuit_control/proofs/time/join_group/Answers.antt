use Rattle.std.proofs.Common.{◌∙◌, refl, ap, arith}
use Rattle.circuit_control.specs.declared.time.SpanGroup.{SpanGroup}
use Rattle.circuit_control.proofs.Within.{at_one_place, extended, added}
use Rattle.circuit_control.proofs.time.join_group.Goals as goal

pub returns-then-index-one : goal.returns-then-index-one
returns-then-index-one c =
    let old : SpanGroup = c.index_mut.result.now in
    let new : SpanGroup = record { span = old.span; active = c.push.new.self } in
    let same = at_one_place c.args.groups.now.items c.args.place c.index.result.now old (omega arith) c.index.ensures c.index_mut.ensures.value in
    extended c.args.groups.now.items c.args.place old new c.args.one (omega arith) c.index_mut.ensures.value c.in_ok-push.ensures.items refl (ap (λ (w : SpanGroup). w.span) same ∙ c.if-index-one.true)

pub returns : goal.returns
returns c = added c.args.groups.now.items c.push-2.new.self.items _ c.args.one c.in_ok-push-2.ensures.items c.in_ok-active.ensures.items refl
