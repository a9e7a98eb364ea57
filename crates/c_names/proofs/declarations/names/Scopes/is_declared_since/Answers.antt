use Rattle.std.proofs.Common.{sym, ap, ◌∙◌}
use Rattle.c_meaning.specs.Checks.Names.{is_declared_since}
use Rattle.c_names.specs.Declarations.Entries.{index_in}
use Rattle.c_names.proofs.DeclarationsLemmas.Layers.{since_at, not_since}
use Rattle.c_names.proofs.declarations.names.Scopes.is_declared_since.Goals as goal

pub returns-in-None : goal.returns-in-None
returns-in-None c =
    sym (not_since c.self.inside.layers.items c.self.inside.latest.entries c.self.invariant c.args.name.now c.args.start (c.in-None.ensures ∙ ap (λ n. index_in n c.self.inside.latest.entries) c.items.ensures))
    ∙ ap (is_declared_since c.args.start c.args.name.now) c.self.view_is

pub returns-in-Some : goal.returns-in-Some
returns-in-Some c =
    sym (since_at c.self.inside.layers.items c.self.inside.latest.entries c.self.invariant c.args.name.now c.args.start c.in-Some.index (c.in-Some.ensures ∙ ap (λ n. index_in n c.self.inside.latest.entries) c.items.ensures))
    ∙ ap (is_declared_since c.args.start c.args.name.now) c.self.view_is
