use Rattle.std.proofs.Common.{◌≡◌, true, is_some, bytes_eq, if◌then◌else◌, ap, subst, sym, ◌∙◌}
use Rattle.c_elaborate.specs.Entries.{entry_in, index_in}
use Rattle.c_elaborate.specs.Layers.{IsIndexed}
use Rattle.c_elaborate.proofs.Layers.{popped, has_latest}
use Rattle.c_elaborate.proofs.names.Scopes.forget_latest.Goals as goal

pub restore-requires : goal.restore-requires
restore-requires c =
    subst (λ n. is_some (entry_in n c.self.inside.latest.entries) ≡ true) (sym c.items.ensures)
    (has_latest c.pop.new.self.items c.self.inside.latest.entries c.in-Some.layer (subst (λ ls. IsIndexed ls c.self.inside.latest.entries) c.in-Some.ensures.items c.self.invariant))

pub invariant_of-self : goal.invariant_of-self
invariant_of-self c =
    popped c.pop.new.self.items c.self.inside.latest.entries c.restore.new.latest.entries c.in-Some.layer
    (subst (λ ls. IsIndexed ls c.self.inside.latest.entries) c.in-Some.ensures.items c.self.invariant)
    (λ name. c.restore.ensures name ∙ ap (λ n. if bytes_eq name n then c.in-Some.layer.hidden else index_in name c.self.inside.latest.entries) c.items.ensures)
