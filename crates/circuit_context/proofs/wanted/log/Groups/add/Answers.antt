use Rattle.std.proofs.Common.{◌∙◌, ◌++◌, ◌∷◌, [], sym, ap}
use Rattle.std.specs.Prelude.{if◌then◌else◌}
use Rattle.circuit_context.specs.Wanted.Roles.{same_target}
use Rattle.circuit_context.proofs.WantedLemmas.Grouping.{given_set}
use Rattle.circuit_context.proofs.wanted.log.Groups.add.Goals as goal

pub returns-clause-given : goal.returns-clause-given
returns-clause-given c = λ t.
    given_set (λ v. v.items) c.place.new.self.targets.keys c.place.new.self.choices.items c.args.push.target t c.in_ok-index.index c.push.new.self c.index_mut.result.now c.args.push.choice
    (sym c.in_ok-index.ensures.place) c.in_ok-index.ensures.within c.in_ok-index.ensures.paired (c.in_ok-push.ensures.items ∙ ap (λ v. v.items ++ c.args.push.choice ∷ []) c.index_mut.ensures.value)
    ∙ ap (λ l. l ++ (if same_target t c.args.push.target then c.args.push.choice ∷ [] else [])) (c.in_ok-index.ensures.given t)
