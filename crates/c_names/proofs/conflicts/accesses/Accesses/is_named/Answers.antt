use Rattle.std.proofs.Common.{ap, ◌∙◌, is_some}
use Rattle.std.specs.List.{list_any}
use Rattle.c_meaning.specs.Checks.Conflicts.{names_it}
use Rattle.c_names.specs.Conflicts.Known.{fault_entry}
use Rattle.c_names.proofs.conflicts.accesses.Accesses.is_named.Goals as goal

pub returns : goal.returns
returns c =
    c.is_there.ensures ∙ ap (λ n. is_some (fault_entry n c.self.inside.faults.entries)) c.items.ensures
    ∙ c.self.invariant.named c.args.name.now ∙ ap (list_any (names_it c.args.name.now)) c.self.view_is
