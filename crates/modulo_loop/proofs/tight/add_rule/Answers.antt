use Rattle.std.proofs.Common.{[], ◌∷◌, ◌++◌, ap, ◌∙◌}
use Rattle.modulo_loop.proofs.Trips.{joins_near, joins_far}
use Rattle.modulo_loop.proofs.tight.add_rule.Goals.{then-at-rule+in_ok-push, else-at-rule}
use Rattle.modulo_loop.proofs.tight.add_rule.Goals as goal

pub returns : goal.returns
returns c =
    let at = c.args.at in
    let rule = c.args.rule in
    let old = c.args.cycle.now.items in
    let new = c.push-2.new.self.items in
    elim c.if-at-rule.branch [
      | then-at-rule+in_ok-push w ↦ joins_far at rule old new (c.in_ok-push-2.ensures.items ∙ ap (λ v. v.items ++ rule ∷ []) w.cycle-is ∙ ap (λ es. es ++ rule ∷ []) w.in_ok-push.ensures.items) w.if-at-rule.true
      | else-at-rule w ↦ joins_near at rule old new (c.in_ok-push-2.ensures.items ∙ ap (λ v. v.items ++ rule ∷ []) w.cycle-is) w.if-at-rule.false
    ]
