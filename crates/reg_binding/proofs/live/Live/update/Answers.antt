use Rattle.std.proofs.Common.{◌≡◌, ◌<◌, true, length, refl, sym, ap, subst, ◌∙◌, arith}
use Rattle.std.specs.Prelude.{slice_get, Some}
use Rattle.std.proofs.lemmas.Bool.{or_right}
use Rattle.std.proofs.lemmas.List.{length-map}
use Rattle.reg_binding.specs.Sets.{has, has_in}
use Rattle.reg_binding.specs.Liveness.{summary_of, flow_of, is_entered, is_behind}
use Rattle.reg_binding.proofs.FreeBits.{set_same, sets_fewer}
use Rattle.reg_binding.proofs.LiveVariables.Elements.{got_of, mapped_at, map_at}
use Rattle.reg_binding.proofs.LiveVariables.Fixpoint.{same_entered, gained_sound, updated_holds}
use Rattle.reg_binding.proofs.live.Live.update.Goals as goal

pub returns-clause-holds : goal.returns-clause-holds
returns-clause-holds g c =
    let live = c.args.self.now in let number = c.args.number in
    let nodes = c.args.cfg.now.nodes.items in let node = c.index-node.result.now in
    let now = summary_of node in
    let flow = flow_of c.args.cfg.now in
    let h = c.requires.holds in
    let mapped = length-map nodes summary_of in
    let long = h.long in
    let inside : number < length live.entered.items = omega (arith, mapped, long, c.requires.number) in
    let old = c.index_mut.result.now in
    let found : slice_get live.entered.items number ≡ Some old = got_of live.entered.items number old inside c.index_mut.ensures.value in
    let at = map_at summary_of nodes number node (got_of nodes number node c.requires.number c.index-node.ensures) in
    let sized = h.sized.1 number old found in
    let gains = c.add_all-more.ensures.gains (sized ∙ sym c.in_ok-set.ensures.count) in
    updated_holds flow live _ number c.add_all-more.new.self now h refl refl refl (gains.count ∙ sized) at
    (gained_sound flow live now number old c.in_ok-behind.behind c.in_ok-set.set c.add_all-more.new.self h at found (c.in_ok-behind.ensures.members h.sized) c.in_ok-set.ensures.count c.in_ok-set.ensures.members gains)

pub returns-clause-same : goal.returns-clause-same
returns-clause-same g c = λ none.
    let live = c.args.self.now in let number = c.args.number in
    let nodes = c.args.cfg.now.nodes.items in
    let mapped = length-map nodes (summary_of {S = g.row.S.Denot}) in
    let long = c.requires.holds.long in
    let inside : number < length live.entered.items = omega (arith, mapped, long, c.requires.number) in
    let found : slice_get live.entered.items number ≡ Some c.index_mut.result.now = got_of live.entered.items number c.index_mut.result.now inside c.index_mut.ensures.value in
    record { variables = refl; entered = set_same live.entered.items number c.add_all-more.new.self (found ∙ ap Some (sym (c.add_all-more.ensures.same none))); kept = refl }

pub returns-clause-fewer : goal.returns-clause-fewer
returns-clause-fewer g c = λ more.
    let live = c.args.self.now in let number = c.args.number in
    let nodes = c.args.cfg.now.nodes.items in
    let mapped = length-map nodes (summary_of {S = g.row.S.Denot}) in
    let long = c.requires.holds.long in
    let inside : number < length live.entered.items = omega (arith, mapped, long, c.requires.number) in
    let found : slice_get live.entered.items number ≡ Some c.index_mut.result.now = got_of live.entered.items number c.index_mut.result.now inside c.index_mut.ensures.value in
    sets_fewer live.entered.items number c.index_mut.result.now c.add_all-more.new.self found (c.add_all-more.ensures.fewer more)

pub returns-clause-closed : goal.returns-clause-closed
returns-clause-closed g c = λ none summary n at l e.
    let live = c.args.self.now in let number = c.args.number in
    let nodes = c.args.cfg.now.nodes.items in let node = c.index-node.result.now in
    let now = summary_of node in
    let h = c.requires.holds in
    let mapped = length-map nodes summary_of in
    let long = h.long in let count = h.count in
    let inside : number < length live.entered.items = omega (arith, mapped, long, c.requires.number) in
    let small : n < live.variables = omega (arith, count, l) in
    let old = c.index_mut.result.now in
    let found : slice_get live.entered.items number ≡ Some old = got_of live.entered.items number old inside c.index_mut.ensures.value in
    let is : now ≡ summary = mapped_at summary_of nodes number node summary (got_of nodes number node c.requires.number c.index-node.ensures) at in
    let more : is_entered now (is_behind live now) n ≡ true = subst (λ s. is_entered s (is_behind live s) n ≡ true) (sym is) e in
    let sized = h.sized.1 number old found in
    let gains = c.add_all-more.ensures.gains (sized ∙ sym c.in_ok-set.ensures.count) in
    let set_has : has c.in_ok-set.set n ≡ true = c.in_ok-set.ensures.members n small ∙ same_entered now (has c.in_ok-behind.behind) (is_behind live now) n (c.in_ok-behind.ensures.members h.sized) ∙ more in
    ap (λ o. has_in o n) found
    ∙ (ap (λ v. has v n) (sym (c.add_all-more.ensures.same none)) ∙ (gains.members n (omega (arith, sized, small)) ∙ or_right (has old n) (has c.in_ok-set.set n) set_has))
