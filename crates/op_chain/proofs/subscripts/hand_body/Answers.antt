use Rattle.std.proofs.Common.{◌≡◌, ◌∙◌, [], false, length, replicate, get_or, ap, sym, subst, refl, arith}
use Rattle.ir_core.specs.Trees.{body_of}
use Rattle.op_chain.specs.Subscripts.{body_hands}
use Rattle.op_chain.specs.Views.{ShowsResults}
use Rattle.op_chain.proofs.Shown.{written_back, nothing_marked}
use Rattle.op_chain.proofs.subscripts.hand_body.Goals as goal

pub returns-clause-results : goal.returns-clause-results
returns-clause-results c =
    let v = c.in_ok-results.results in
    let none : v.items ≡ replicate c.len.result false = c.in_ok-results.ensures.items_if_clones_equal (λ y e. e) in
    let own : length c.hand_all.new.results ≡ v.len = omega (arith, c.hand_all.auto.results, ap length c.deref_mut.ensures.value, v.ok.0) in
    let start = subst (λ m. ShowsResults m []) (sym (c.deref_mut.ensures.value ∙ none)) (nothing_marked c.len.result) in
    subst (λ m. ShowsResults m (body_hands c.args.reaching.now (body_of c.args.body.now))) (sym (written_back v.len c.hand_all.new.results v.items own)) (c.hand_all.ensures.results start)

pub returns-clause-variables : goal.returns-clause-variables
returns-clause-variables c =
    let v = c.in_ok-results.results in
    let none : v.items ≡ replicate c.len.result false = c.in_ok-results.ensures.items_if_clones_equal (λ y e. e) in
    let start = subst (λ m. ShowsResults m []) (sym (c.deref_mut.ensures.value ∙ none)) (nothing_marked c.len.result) in
    c.hand_all.ensures.variables (λ v. get_or c.args.variables.now v false) start (λ v below. refl)
