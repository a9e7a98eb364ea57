use Rattle.std.proofs.Common.{Some, sym, ap, ◌∙◌, arith}
use Rattle.c_meaning.specs.Checks.Names.{sense_of}
use Rattle.c_names.specs.Declarations.Entries.{index_in}
use Rattle.c_names.proofs.DeclarationsLemmas.Layers.{index_within, sense_at, no_sense}
use Rattle.c_names.proofs.declarations.names.Scopes.find.Goals as goal

pub index-layer-requires : goal.index-layer-requires
index-layer-requires c =
    let lt = index_within c.self.inside.layers.items c.self.inside.latest.entries c.self.invariant c.args.name.now c.in-Some.index
    (c.in-Some.ensures ∙ ap (λ n. index_in n c.self.inside.latest.entries) c.items.ensures) in
    let same = c.self.inside.layers.ok in
    omega arith

pub returns-in-None : goal.returns-in-None
returns-in-None c =
    sym (no_sense c.self.inside.layers.items c.self.inside.latest.entries c.self.invariant c.args.name.now (c.in-None.ensures ∙ ap (λ n. index_in n c.self.inside.latest.entries) c.items.ensures))
    ∙ ap (sense_of c.args.name.now) c.self.view_is

pub returns-in-Some : goal.returns-in-Some
returns-in-Some c =
    let layer = c.index-layer.result.now in
    ap (λ d. Some d.sense) c.declared.view_is
    ∙ ap (λ l. Some l.declared.sense) c.index-layer.ensures
    ∙ sym (sense_at c.self.inside.layers.items c.self.inside.latest.entries c.self.invariant c.args.name.now c.in-Some.index layer (c.in-Some.ensures ∙ ap (λ n. index_in n c.self.inside.latest.entries) c.items.ensures))
    ∙ ap (sense_of c.args.name.now) c.self.view_is
