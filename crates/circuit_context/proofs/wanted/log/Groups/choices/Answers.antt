use Rattle.std.proofs.Common.{◌∙◌, sym, ap, arith}
use Rattle.circuit_context.proofs.WantedLemmas.Grouping.{given_found, given_past, given_nowhere}
use Rattle.circuit_context.proofs.wanted.log.Groups.choices.Goals as goal

pub returns-in_default : goal.returns-in_default
returns-in_default c =
    sym (given_nowhere (λ v. v.items) c.args.self.now.targets.keys c.args.self.now.choices.items c.args.target c.get_index_of.result c.get_index_of.ensures.index c.in_default.is)

pub returns-then-index-len : goal.returns-then-index-len
returns-then-index-len c =
    c.deref.ensures.value ∙ ap (λ v. v.items) c.index.ensures
    ∙ sym (given_found (λ v. v.items) c.args.self.now.targets.keys c.args.self.now.choices.items c.args.target c.get_index_of.result c.in-Some.index c.index.result.now c.get_index_of.ensures.index
    c.in-Some.is (omega arith))

pub returns-else-index-len : goal.returns-else-index-len
returns-else-index-len c =
    sym (given_past (λ v. v.items) c.args.self.now.targets.keys c.args.self.now.choices.items c.args.target c.get_index_of.result c.in-Some.index c.get_index_of.ensures.index c.in-Some.is (omega arith))
