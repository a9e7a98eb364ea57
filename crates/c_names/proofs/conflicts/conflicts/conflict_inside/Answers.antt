use Rattle.std.proofs.Common.{◌≡◌, ap, ◌∙◌, arith}
use Rattle.c_meaning.specs.Checks.Faults.{lesser, least}
use Rattle.c_meaning.specs.Checks.Conflicts.{name_of, clash, changes, conflicts_inside}
use Rattle.c_names.specs.Conflicts.Known.{change_fault}
use Rattle.c_names.proofs.ConflictsLemmas.Conflicting.{one_more, all_seen, inside_more, inside_none, named_so}
use Rattle.c_names.proofs.conflicts.conflicts.conflict_inside.Goals as goal

pub loop-i-preserved : goal.loop-i-preserved
loop-i-preserved c =
    let own = c.args.own.now in
    let inner = c.args.inner.now in
    let a = c.at-access.result.now in
    let named : c.access.inside.name ≡ name_of a = named_so c.access.inside.name c.access.inside.change ∙ ap name_of c.access.view_is in
    let changed = c.change_fault-changed.ensures ∙ ap (λ n. change_fault n inner) named in
    let here = c.lesser.ensures ∙ ap (λ r. lesser r c.change_fault-changed.result) c.clash_with_changes.ensures ∙ ap (lesser (least (clash a (changes inner)))) changed in
    one_more (λ xs. least (conflicts_inside xs inner)) (λ x. lesser (least (clash x (changes inner))) (change_fault (name_of x) inner)) (λ x rest. inside_more x rest inner)
    own c.loop-i.i a _ _ _ _ (let lt = c.loop-i-test.true in let end = c.len-i-end.ensures in omega arith) c.at-access.ensures here c.lesser-worst.ensures c.loop-i.invariant

pub returns : goal.returns
returns c = all_seen (λ xs. least (conflicts_inside xs c.args.inner.now)) c.args.own.now c.loop-i.i c.loop-i.worst _ (inside_none c.args.inner.now) (let ge = c.loop-i-test.false in let end = c.len-i-end.ensures in omega arith) c.loop-i.invariant
