use Rattle.std.proofs.Common.{◌≡◌, true, false, is_some, sym, ap, ◌∙◌}
use Rattle.std.specs.List.{list_any}
use Rattle.c_meaning.specs.Checks.Conflicts.{name_of, names_it, changes}
use Rattle.c_names.specs.Conflicts.Known.{change_fault}
use Rattle.c_names.proofs.ConflictsLemmas.Conflicting.{is_changed, clash_where, named_so}
use Rattle.c_names.proofs.conflicts.conflicts.clash_with_changes.Goals as goal

pub returns-then-is_some : goal.returns-then-is_some
returns-then-is_some c =
    let a = c.args.access.now in
    let others = c.args.others.now in
    let own : c.access.inside.name ≡ name_of a = named_so c.access.inside.name c.access.inside.change ∙ ap name_of c.access.view_is in
    let there : list_any (names_it (name_of a)) (changes others) ≡ true =
    is_changed (name_of a) others ∙ ap (λ n. is_some (change_fault n others)) (sym own) ∙ ap is_some (sym c.change_fault.ensures) ∙ sym c.is_some.ensures ∙ c.if-is_some.true in
    c.own_fault.ensures ∙ sym (clash_where a (changes others) true there)

pub returns-else-is_some : goal.returns-else-is_some
returns-else-is_some c =
    let a = c.args.access.now in
    let others = c.args.others.now in
    let own : c.access.inside.name ≡ name_of a = named_so c.access.inside.name c.access.inside.change ∙ ap name_of c.access.view_is in
    let absent : list_any (names_it (name_of a)) (changes others) ≡ false =
    is_changed (name_of a) others ∙ ap (λ n. is_some (change_fault n others)) (sym own) ∙ ap is_some (sym c.change_fault.ensures) ∙ sym c.is_some.ensures ∙ c.if-is_some.false in
    sym (clash_where a (changes others) false absent)
