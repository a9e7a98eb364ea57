use Rattle.std.proofs.Common.{◌≡◌, ap, ◌∙◌, arith}
use Rattle.c_meaning.specs.Checks.Faults.{lesser, least}
use Rattle.c_meaning.specs.Checks.Conflicts.{name_of, clash, between}
use Rattle.c_names.specs.Conflicts.Known.{change_fault}
use Rattle.c_names.proofs.ConflictsLemmas.Conflicting.{one_more, all_seen, between_more, between_none, named_so}
use Rattle.c_names.proofs.conflicts.conflicts.between_each.Goals as goal

pub loop-i-preserved : goal.loop-i-preserved
loop-i-preserved c =
    let these = c.args.these.now in
    let others = c.args.others.now in
    let a = c.at-access.result.now in
    let named : c.access.inside.name ≡ name_of a = named_so c.access.inside.name c.access.inside.change ∙ ap name_of c.access.view_is in
    let changed = c.change_fault-changed.ensures ∙ ap (λ n. change_fault n others) named in
    let here = c.lesser.ensures ∙ ap (λ r. lesser r c.change_fault-changed.result) c.clash.ensures ∙ ap (lesser (least (clash a others))) changed in
    one_more (λ xs. least (between xs others)) (λ x. lesser (least (clash x others)) (change_fault (name_of x) others)) (λ x rest. between_more x rest others)
    these c.loop-i.i a _ _ _ _ (let lt = c.loop-i-test.true in let end = c.len-i-end.ensures in omega arith) c.at-access.ensures here c.lesser-worst.ensures c.loop-i.invariant

pub returns : goal.returns
returns c = all_seen (λ xs. least (between xs c.args.others.now)) c.args.these.now c.loop-i.i c.loop-i.worst _ (between_none c.args.others.now) (let ge = c.loop-i-test.false in let end = c.len-i-end.ensures in omega arith) c.loop-i.invariant
