use Rattle.std.proofs.Common.{◌≡◌, subst, sym}
use Rattle.std.specs.Prelude.{flat_map}
use Rattle.std.specs.List.Sorted.{IsPermutation}
use Rattle.std.proofs.lemmas.Result.{IfOk-weaker}
use Rattle.rtl_logic.specs.Making.{circuit}
use Rattle.rtl_logic.proofs.Making.{appends_both}
use Rattle.datapath.specs.Cycles.{Cycle, bit}
use Rattle.datapath.specs.Control.{goes_on}
use Rattle.circuit_control.specs.Gathered.{TellTogether}
use Rattle.circuit_control.specs.Spans.{MakesGoing, GroupsFit, members}
use Rattle.circuit_control.proofs.Telling.{made_behind}
use Rattle.circuit_control.proofs.Wanted.{any_tells}
use Rattle.circuit_control.proofs.Within.{grouped_fit, groups_tell}
use Rattle.circuit_control.proofs.time.goes_on.Goals as goal

pub returns : goal.returns
returns c = λ p names context begun.
    let d = circuit c.args.logic.now in
    let e = circuit c.all_spans.new.logic in
    let f = circuit c.going_groups.new.logic in
    let g = circuit c.any.new.self in
    let all = c.in_ok-all.all.items in
    let groups = c.in_ok-groups.groups.items in
    let bits = c.in_ok-bits.bits.items in
    let spans = c.in_ok-all.ensures p names context begun in
    let same : IsPermutation all (flat_map members groups) = subst (λ l. IsPermutation l (flat_map members groups)) c.deref.ensures.value c.in_ok-groups.ensures in
    let fits : GroupsFit e c.deref-2.result.now = subst (GroupsFit e) (sym c.deref-2.ensures.value) (grouped_fit e all groups same spans.fits) in
    let going : MakesGoing p names e f bits groups = subst (MakesGoing p names e f bits) c.deref-2.ensures.value (c.in_ok-bits.ensures p names context spans.begun fits) in
    let together = groups_tell p names d e f all groups bits (goes_on p) spans same going in
    let is : bits ≡ c.deref-3.result.now = sym c.deref-3.ensures.value in
    let seen_ = subst (λ l. TellTogether p names f l (goes_on p)) is together in
    IfOk-weaker c.any.result _ _
    (λ a made. made_behind p names d f g 1 a (λ (x : Cycle). bit (goes_on p x)) (appends_both d e f spans.appends going.appends) (any_tells p names f g c.deref-3.result.now a (goes_on p) going.begun seen_ made))
    (c.any.ensures going.begun.sound seen_.fits)
