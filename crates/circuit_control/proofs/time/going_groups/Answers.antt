use Rattle.std.proofs.Common.{◌≡◌, ◌<◌, ◌≤◌, ◌+◌, [], ◌∷◌, ◌++◌, length, take, sym, ap, ◌∙◌, subst, arith}
use Rattle.std.specs.List.{All}
use Rattle.std.proofs.lemmas.List.{take_more, take_all}
use Rattle.std.proofs.lemmas.List.Elements.{All-get_or}
use Rattle.rtl_core.specs.ClockStep.{widths}
use Rattle.rtl_core.specs.Valid.{HasBits}
use Rattle.rtl_logic.specs.Making.{circuit}
use Rattle.circuit_control.specs.declared.time.SpanGroup.{SpanGroup}
use Rattle.circuit_control.specs.Spans.{MakesGoing}
use Rattle.circuit_control.proofs.Within.{no_groups, one_group, groups_later}
use Rattle.circuit_control.proofs.time.going_groups.Goals as goal

pub loop-group-init : goal.loop-group-init
loop-group-init c = λ p names context begun fits.
    let d = circuit c.args.logic.now in
    subst (λ l. MakesGoing p names d d l []) (sym c.in_ok-bits.ensures.items) (no_groups p names d begun)

pub loop-group-preserved : goal.loop-group-preserved
loop-group-preserved c = λ p names context begun fits.
    let d = circuit c.args.logic.now in
    let e = circuit c.loop-group.logic in
    let f = circuit c.going_group.new.logic in
    let groups = c.args.groups.now in
    let k = c.loop-group.group-index in
    let group = c.group-item.result in
    let less : k < length groups = omega arith in
    let h = c.loop-group.invariant p names context begun fits in
    let all = groups_later d e groups h.appends fits in
    let here = All-get_or (λ (g : SpanGroup). All (HasBits (widths e) 1) g.active.items) groups k group less all in
    let one = c.in_ok-going_group.ensures p names context h.begun (subst (λ (g : SpanGroup). All (HasBits (widths e) 1) g.active.items) (sym c.group-item.is) here) in
    let next : take (k + 1) groups ≡ take k groups ++ group ∷ [] = take_more groups k group less ∙ ap (λ (g : SpanGroup). take k groups ++ g ∷ []) (sym c.group-item.is) in
    subst (λ l. MakesGoing p names d f c.push.new.self.items l) (sym next)
    (one_group p names d e f c.loop-group.bits.items c.push.new.self.items (take k groups) c.in_ok-going_group.field-0 group h c.in_ok-push.ensures.items one)

pub returns : goal.returns
returns c = λ p names context begun fits.
    let groups = c.args.groups.now in
    let k = c.loop-group.group-index in
    let past : length groups ≤ k = omega arith in
    subst (λ l. MakesGoing p names (circuit c.args.logic.now) (circuit c.loop-group.logic) c.loop-group.bits.items l) (take_all k groups past) (c.loop-group.invariant p names context begun fits)
