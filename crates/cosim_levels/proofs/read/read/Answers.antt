use Rattle.std.proofs.Common.{◌≡◌, map, IfOk, IfErr, sym, subst, arith}
use Rattle.std.proofs.lemmas.List.{length-map}
use Rattle.c_tree.specs.View.{param_of}
use Rattle.cosim_levels.specs.RunFile.{inputs, rows_of, IsCause, AreTaken}
use Rattle.cosim_levels.proofs.Taking.{reading_small}
use Rattle.cosim_levels.proofs.Fitting.{ok_fits}
use Rattle.cosim_levels.proofs.read.read.Goals as goal

pub returns-clause-inputs : goal.returns-clause-inputs
returns-clause-inputs c =
    let ps = map param_of c.args.params.now in
    let bytes = c.args.bytes.now in
    let given = c.in_ok-taken.taken.given.items in
    let count = c.in_ok-taken.taken.count in
    let taken = subst (λ n. AreTaken n (rows_of ps bytes) given count) (sym (length-map c.args.params.now param_of)) c.in_ok-taken.ensures.taken in
    let same = reading_small ps bytes given count (omega arith) taken in
    subst (λ x. IfOk c.inputs_of.result (λ i. x ≡ inputs i.scalars i.arrays)) same (rw c.deref.ensures.value at c.inputs_of.ensures.inputs)

pub returns-clause-fit : goal.returns-clause-fit
returns-clause-fit c = ok_fits (map param_of c.args.params.now) c.args.bytes.now c.inputs_of.result (returns-clause-inputs c)

pub returns-clause-refused : goal.returns-clause-refused
returns-clause-refused c =
    let ps = map param_of c.args.params.now in
    let bytes = c.args.bytes.now in
    let given = c.in_ok-taken.taken.given.items in
    let count = c.in_ok-taken.taken.count in
    let taken = subst (λ n. AreTaken n (rows_of ps bytes) given count) (sym (length-map c.args.params.now param_of)) c.in_ok-taken.ensures.taken in
    let same = reading_small ps bytes given count (omega arith) taken in
    subst (λ x. IfErr c.inputs_of.result (λ e. IsCause x e)) same (rw c.deref.ensures.value at c.inputs_of.ensures.refused)
