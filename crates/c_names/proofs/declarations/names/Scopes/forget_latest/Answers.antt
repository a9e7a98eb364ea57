use Rattle.std.proofs.Common.{◌≡◌, true, is_some, bytes_eq, if◌then◌else◌, ap, subst, sym, ◌∙◌}
use Rattle.c_names.specs.Declarations.Entries.{entry_in, index_in}
use Rattle.c_names.specs.Declarations.Layers.{IsIndexed}
use Rattle.c_names.proofs.DeclarationsLemmas.Layers.{popped, has_latest}
use Rattle.c_names.proofs.declarations.names.Scopes.forget_latest.Goals as goal

pub restore-requires : goal.restore-requires
restore-requires c =
    subst (λ n. is_some (entry_in n c.self.inside.latest.entries) ≡ true) (sym (c.items.ensures ∙ ap (λ l. l.declared.name) c.layer.view_is))
    (has_latest c.pop.new.self.items c.self.inside.latest.entries c.in-Some.layer (subst (λ ls. IsIndexed ls c.self.inside.latest.entries) c.in-Some.ensures.items c.self.invariant))

pub invariant_of-self : goal.invariant_of-self
invariant_of-self c =
    popped c.pop.new.self.items c.self.inside.latest.entries c.restore.new.latest.entries c.in-Some.layer
    (subst (λ ls. IsIndexed ls c.self.inside.latest.entries) c.in-Some.ensures.items c.self.invariant)
    (λ name. c.restore.ensures name ∙ ap (λ h. if bytes_eq name c.items.result.now then h else index_in name c.self.inside.latest.entries) (ap (λ l. l.hidden) c.layer.view_is) ∙ ap (λ n. if bytes_eq name n then c.in-Some.layer.hidden else index_in name c.self.inside.latest.entries) (c.items.ensures ∙ ap (λ l. l.declared.name) c.layer.view_is))

pub invariant_of-self-in-Some-2 : goal.invariant_of-self-in-Some-2
invariant_of-self-in-Some-2 c =
    popped c.pop.new.self.items c.self.inside.latest.entries c.restore.new.latest.entries c.in-Some.layer
    (subst (λ ls. IsIndexed ls c.self.inside.latest.entries) c.in-Some.ensures.items c.self.invariant)
    (λ name. c.restore.ensures name ∙ ap (λ h. if bytes_eq name c.items.result.now then h else index_in name c.self.inside.latest.entries) (ap (λ l. l.hidden) c.layer.view_is) ∙ ap (λ n. if bytes_eq name n then c.in-Some.layer.hidden else index_in name c.self.inside.latest.entries) (c.items.ensures ∙ ap (λ l. l.declared.name) c.layer.view_is))
