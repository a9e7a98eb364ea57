use Rattle.std.proofs.Common.{◌≡◌, ℕ, List, Option, None, Some, slice_index_or, sym, ◌∙◌, arith}
use Rattle.std.proofs.lemmas.List.{get_or_read}
use Rattle.cosim_levels.proofs.Taking.{input_missing, input_given}
use Rattle.cosim_levels.proofs.read.inputs_of.Goals as goal

pub returns-in_default-clause-refused : goal.returns-in_default-clause-refused
returns-in_default-clause-refused c =
    let given : ℕ → Option (List ℕ) = λ j. slice_index_or c.args.given.now j None in
    let none : given c.loop-k.k ≡ None = sym (rw c.in_default.is at c.index-given-k.is) in
    sym c.loop-k.invariant
    ∙ input_missing c.args.line given c.loop-k.k c.args.params.now c.index-params-k.result c.loop-k-test.true c.index-params-k.is c.loop-k.scalars.items c.loop-k.arrays.items none

pub loop-k-preserved : goal.loop-k-preserved
loop-k-preserved c =
    let given : ℕ → Option (List ℕ) = λ j. slice_index_or c.args.given.now j None in
    let some : given c.loop-k.k ≡ Some c.in-Some.words = sym (get_or_read c.args.given.now c.loop-k.k (Some c.in-Some.words) (omega arith) (rw c.in-Some.is at c.index-given-k.is) None) in
    input_given c.args.line given c.loop-k.k c.args.params.now c.index-params-k.result c.loop-k-test.true c.index-params-k.is
    c.loop-k.scalars.items c.add_words.new.scalars.items c.loop-k.arrays.items c.add_words.new.arrays.items c.in-Some.words some c.in_ok-add_words.ensures
    ∙ c.loop-k.invariant
