use Rattle.std.proofs.Common.{◌≡◌, Some, length, ap, ◌∙◌, arith}
use Rattle.indexmap.specs.IndexMap.{insert_entry}
use Rattle.c_names.specs.Declarations.Entries.{index_in}
use Rattle.c_names.proofs.DeclarationsLemmas.Layers.{same_key, pushed}
use Rattle.c_names.proofs.declarations.names.Scopes.declare.Goals as goal

pub invariant_of-self-in-Ok : goal.invariant_of-self-in-Ok
invariant_of-self-in-Ok c =
    let es = c.self.inside.latest.entries in
    let key = c.in_ok-name.name in
    let own : key.items ≡ c.args.declared.name = c.in_ok-name.ensures.items ∙ c.items.ensures ∙ ap (λ d. d.name) c.declared.view_is in
    let hides : c.latest_index-hidden.result ≡ index_in c.args.declared.name es = c.latest_index-hidden.ensures ∙ ap (λ n. index_in n es) (c.deref.ensures.value ∙ own) in
    let count : c.len-index.result ≡ length c.self.inside.layers.items = let found = c.len-index.ensures in let same = c.self.inside.layers.ok in omega arith in
    rw c.in_ok-push.ensures.items (pushed c.self.inside.layers.items es c.insert.new.self.entries (record { declared = c.args.declared; hidden = c.latest_index-hidden.result }) key c.self.invariant own hides
    (c.in-Ok.ensures.entries ∙ ap (λ n. insert_entry same_key es key (Some n)) count))
