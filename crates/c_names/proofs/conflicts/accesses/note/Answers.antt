use Rattle.std.proofs.Common.{◌≡◌, [], ◌∷◌, Some, ap, ◌∙◌, bytes_eq, if◌then◌else◌}
use Rattle.c_meaning.specs.Checks.Faults.{lesser, least}
use Rattle.c_meaning.specs.Checks.Conflicts.{read, name_of, clash}
use Rattle.c_names.specs.Conflicts.Known.{fault_entry, found}
use Rattle.c_names.proofs.ConflictsLemmas.Knowing.{entry-insert}
use Rattle.c_names.proofs.ConflictsLemmas.Conflicting.{named_so}
use Rattle.c_names.proofs.conflicts.accesses.note.Goals as goal

pub returns : goal.returns
returns c = λ q.
    let a = c.args.access.now in
    let es = c.args.faults.now.entries in
    let key = c.in_ok-name.name in
    let own : key.items ≡ name_of a = c.in_ok-name.ensures.items ∙ c.items.ensures ∙ named_so c.access.inside.name c.access.inside.change ∙ ap name_of c.access.view_is in
    let before = c.fault_found-earlier.ensures ∙ ap (λ n. found (fault_entry n es)) (c.deref.ensures.value ∙ own) in
    let fault = c.lesser-fault.ensures ∙ ap (λ f. lesser f c.fault_found-earlier.result) c.own_fault.ensures ∙ ap (lesser (least (clash a (read (name_of a) ∷ [])))) before in
    ap (fault_entry q) c.in_ok-insert.ensures.entries ∙ entry-insert es key c.lesser-fault.result q
    ∙ ap (λ n. if bytes_eq q n then Some c.lesser-fault.result else fault_entry q es) own
    ∙ ap (λ f. if bytes_eq q (name_of a) then Some f else fault_entry q es) fault
