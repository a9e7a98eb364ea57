use Rattle.std.proofs.Common.{◌∙◌, sym, ap}
use Rattle.c_tree.specs.View.{tree_of}
use Rattle.c_value.specs.Operators.{binary_kind}
use Rattle.c_value.specs.Chains.{left_of}
use Rattle.c_value.proofs.Chaining.{one_less, no_operator, as_binary, as_left}
use Rattle.c_meaning.specs.Checks.Names.{kind_of}
use Rattle.c_types.proofs.kinds.+kinds.Goals as goal

pub kind_of-outwards-preserved-in-Binary : goal.kind_of-outwards-preserved-in-Binary
kind_of-outwards-preserved-in-Binary t c =
    let names = c.args.names.now in
    let whole = tree_of c.args.e.now in
    let depth = c.outwards.depth in
    let node = c.part_at-in-outwards.result.now in
    let here = c.part_at-in-outwards.ensures.tree in
    let step = c.in-Binary in
    let left = as_left whole depth node step.op step.left step.right step.at c.outwards-test.true here step.is in
    let binary = as_binary whole depth node step.op step.left step.right step.at c.outwards-test.true here step.is in
    c.binary_kind-kind.ensures
    ∙ ap (λ k. binary_kind step.op k c.kind_of.result) (c.outwards.invariant ∙ ap (kind_of names) left)
    ∙ ap (binary_kind step.op (kind_of names (tree_of step.left.value))) (c.kind_of.ensures ∙ ap (λ e. kind_of names (tree_of e)) c.deref.ensures)
    ∙ sym (ap (kind_of names) binary)

pub kind_of-outwards-preserved : goal.kind_of-outwards-preserved
kind_of-outwards-preserved t c =
    let whole = tree_of c.args.e.now in
    let here = c.part_at-in-outwards.ensures.tree in
    c.outwards.invariant ∙ ap (kind_of c.args.names.now) (one_less whole c.outwards.depth c.outwards-test.true
    ∙ ap left_of (sym here) ∙ no_operator c.part_at-in-outwards.result.now c.in_default.not-Binary ∙ here)
