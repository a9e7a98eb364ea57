use Rattle.std.proofs.Common.{◌∙◌, ◌∷◌, sym, ap}
use Rattle.c_token.specs.declared.punct.Punct.TheVariants as p
use Rattle.c_tree.specs.Terminals.{sign}
use Rattle.c_parser.specs.Objects.{another, closed, closed_comma}
use Rattle.c_parser.proofs.object.is_followed.Goals as goal

pub returns-then-eat-clause-found : goal.returns-then-eat-clause-found
returns-then-eat-clause-found c = let x = c.if-eat.ensures in closed _ x.0 _ x.1

pub returns-then-not-eat-clause-absent : goal.returns-then-not-eat-clause-absent
returns-then-not-eat-clause-absent c = let a = c.if-eat.ensures in let b = c.if-not-eat.ensures in (λ at rest e. b.1 at rest (a.0 ∙ e), a.1)

pub returns-then-eat-2-clause-found : goal.returns-then-eat-2-clause-found
returns-then-eat-2-clause-found c = let a = c.if-eat.ensures in let b = c.if-not-eat.ensures in let d = c.if-eat-2.ensures in
    closed_comma _ b.0 d.0 _ (sym a.0 ∙ b.1 ∙ ap (λ y. sign p.Comma b.0 ∷ y) d.1)

pub returns-clause-found : goal.returns-clause-found
returns-clause-found c = let a = c.if-eat.ensures in let b = c.if-not-eat.ensures in let d = c.if-eat-2.ensures in
    another _ b.0 _ (sym a.0 ∙ b.1 ∙ ap (λ y. sign p.Comma b.0 ∷ y) (sym d.0)) (λ closes others e. d.1 closes others (sym d.0 ∙ e))
