use Rattle.circuit_context.proofs.WantedLemmas.Grouping.{inserted_at, given_placed}
use Rattle.circuit_context.proofs.wanted.log.Groups.place.Goals as goal

pub returns-then-not-is_new-clause-place : goal.returns-then-not-is_new-clause-place
returns-then-not-is_new-clause-place c =
    inserted_at c.args.self.now.targets.keys c.insert_full.new.self.keys c.args.target c.in_ok-index.index c.in_ok-index.ensures.keys c.in_ok-index.ensures.index

pub returns-clause-given : goal.returns-clause-given
returns-clause-given c = λ t.
    given_placed (λ v. v.items) c.args.self.now.targets.keys c.insert_full.new.self.keys c.args.self.now.choices.items c.push.new.self.items c.args.target t c.new.result c.in_ok-index.is_new
    c.in_ok-index.ensures.added c.if-not-is_new.false c.in_ok-index.ensures.keys c.requires c.new.ensures.items c.in_ok-push.ensures.items

pub returns-clause-place : goal.returns-clause-place
returns-clause-place c =
    inserted_at c.args.self.now.targets.keys c.insert_full.new.self.keys c.args.target c.in_ok-index.index c.in_ok-index.ensures.keys c.in_ok-index.ensures.index
